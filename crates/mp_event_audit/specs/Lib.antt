pub mod RenewedLog
pub mod Behind
pub mod Auditing
