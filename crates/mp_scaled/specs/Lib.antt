pub mod Sweeping
pub mod Giving
