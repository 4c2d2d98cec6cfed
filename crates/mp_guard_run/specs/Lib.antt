pub mod Accounts
pub mod Choosing
pub mod Views
pub mod OwedView
pub mod Session
pub mod SessionView
pub mod Running
