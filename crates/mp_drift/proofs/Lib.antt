pub mod Limits
pub mod Loops
pub mod Fitting
pub mod Finding
pub mod Opening
pub mod Periods
mod Worked
