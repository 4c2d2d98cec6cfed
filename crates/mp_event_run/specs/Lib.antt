pub mod Behind
pub mod Running
pub mod Keeping
pub mod Saying
pub mod Prompt
