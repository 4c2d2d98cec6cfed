pub mod Busy
pub mod Bounds
pub mod Surplus
