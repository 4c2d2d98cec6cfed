pub mod Rounding
pub mod Sweeping
pub mod Serving
pub mod Leasts
pub mod Searching
