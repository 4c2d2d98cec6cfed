pub mod Fitting
pub mod Kinds
pub mod Heading
pub mod Logged
