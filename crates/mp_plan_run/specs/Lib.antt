pub mod Green
pub mod Planned
pub mod SessionView
pub mod Heading
pub mod Running
