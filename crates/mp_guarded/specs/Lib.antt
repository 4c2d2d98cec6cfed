pub mod Greens
pub mod Waits
pub mod Candidates
pub mod Bounds
pub mod Runs
pub mod Sweeps
pub mod Cases
