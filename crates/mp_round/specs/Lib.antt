pub mod Events
pub mod RoundView
pub mod Reporting
pub mod Copying
pub mod Deciding
pub mod Showing
pub mod Advancing
