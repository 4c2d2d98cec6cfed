pub mod Networks
pub mod Stretches
pub mod Parts
pub mod Drift
pub mod Runs
pub mod Cases
pub mod Controls
