pub mod GuardedLog
pub mod Heading
pub mod Auditing
