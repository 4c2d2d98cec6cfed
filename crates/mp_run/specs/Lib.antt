pub mod Running
pub mod Auditing
