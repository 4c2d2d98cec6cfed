pub mod Accounts
pub mod Controller
pub mod Driving
pub mod Kept
