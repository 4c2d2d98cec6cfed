pub mod Greatests
pub mod Rooms
pub mod Draws
pub mod Fills
pub mod Only
pub mod RoadRules
pub mod RoadCert
pub mod Roads
pub mod Periods
pub mod Limits
pub mod Names
pub mod Appended
pub mod Texts
mod Worked
