pub mod Course
pub mod Taking
pub mod Ends
pub mod Progress
pub mod Arrivals
