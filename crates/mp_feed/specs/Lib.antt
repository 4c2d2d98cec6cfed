pub mod Counts
pub mod Fill
pub mod Filled
pub mod Table
