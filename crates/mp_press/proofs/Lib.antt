pub mod Writes
pub mod Known
pub mod Sums
pub mod Among
pub mod Firsts
pub mod Signs
pub mod Changed
pub mod Cached
pub mod Summed
mod Worked
