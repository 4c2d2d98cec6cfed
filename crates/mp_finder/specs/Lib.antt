pub mod Greens
pub mod Finding
pub mod Giving
pub mod WorkedGuards
