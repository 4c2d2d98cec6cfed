pub mod Busy
pub mod Rows
pub mod Places
pub mod Quotients
pub mod Flows
pub mod Bounds
pub mod Surplus
