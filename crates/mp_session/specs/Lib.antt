pub mod SessionView
pub mod Showing
