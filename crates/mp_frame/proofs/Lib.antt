pub mod Copied
pub mod Acceptable
pub mod Flags
pub mod Bounding
mod Worked
