pub mod Plans
pub mod Bounds
pub mod Controls
