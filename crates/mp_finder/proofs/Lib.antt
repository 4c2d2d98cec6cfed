pub mod Lists
pub mod Firsts
pub mod Wanting
pub mod Finding
pub mod Settling
pub mod Guarding
pub mod Computed
pub mod Lacking
