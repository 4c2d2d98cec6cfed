pub mod Lists
pub mod Scores
pub mod Turns
pub mod Spreads
pub mod Mixings
pub mod Verdicts
