pub mod Flows
pub mod Constants
pub mod Stated
pub mod Bounded
pub mod Session
pub mod SessionView
