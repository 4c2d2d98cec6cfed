pub mod Greatest
pub mod DemoNetwork
pub mod DemoCertified
pub mod DemoArrivals
pub mod DrawnView
pub mod Demonstration
pub mod DemoText
