pub mod Lines
pub mod Permits
pub mod Periods
pub mod Takings
pub mod Ending
pub mod Heads
pub mod Bounding
pub mod Prompting
