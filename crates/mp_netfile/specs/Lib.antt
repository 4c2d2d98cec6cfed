pub mod Values
pub mod Keys
pub mod Meaning
pub mod Numbered
pub mod Right
pub mod TableRules
pub mod Printed
pub mod Faults
