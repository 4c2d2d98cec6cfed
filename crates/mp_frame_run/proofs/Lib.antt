pub mod Zeros
pub mod Greens
pub mod Advances
pub mod Courses
pub mod Lines
pub mod Bounds
pub mod Openings
pub mod Accounts
