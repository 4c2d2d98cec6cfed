pub mod Frames
pub mod Accounts
pub mod Cases
pub mod Controls
