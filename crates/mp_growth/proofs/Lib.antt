pub mod Summing
pub mod EvenCounts
pub mod Searching
pub mod Rates
pub mod Going
