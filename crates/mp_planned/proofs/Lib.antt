pub mod Running
pub mod Plans
pub mod Chains
pub mod Controls
