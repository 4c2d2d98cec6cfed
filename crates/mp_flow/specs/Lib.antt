pub mod Elimination
pub mod Columns
pub mod Answers
pub mod Meeting
pub mod Systems
pub mod Calculating
