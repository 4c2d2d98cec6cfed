pub mod Optimal
pub mod Tableau
pub mod Pivoting
pub mod Outcome
pub mod Checking
pub mod Meeting
pub mod Running
