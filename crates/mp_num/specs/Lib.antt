pub mod Checked
pub mod Divisor
pub mod Fraction
pub mod Passing
pub mod Operations
pub mod Row
pub mod Multiple
pub mod Sums
