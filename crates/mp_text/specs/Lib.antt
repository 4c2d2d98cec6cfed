pub mod Appending
pub mod Bigs
pub mod Buffered
pub mod Cut
pub mod Cutting
pub mod Spaced
