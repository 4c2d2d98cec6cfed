pub mod StageLemmas
pub mod Fitting
pub mod Listing
pub mod Greening
pub mod Marking
pub mod Bounding
pub mod Planning
mod Worked
