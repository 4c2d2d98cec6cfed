pub mod Bursts
pub mod Checking
pub mod GuardHeader
pub mod GuardText
pub mod Surpluses
pub mod TextLaws
pub mod Views
