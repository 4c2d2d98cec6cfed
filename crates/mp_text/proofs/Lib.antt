pub mod Appended
pub mod CuttingLemmas
pub mod Decimals
pub mod Digits
pub mod Filling
pub mod Lines
pub mod RawLines
pub mod Spaces
