pub mod Sweeps
pub mod Trials
pub mod Search
pub mod Laws
pub mod WorkedScales
