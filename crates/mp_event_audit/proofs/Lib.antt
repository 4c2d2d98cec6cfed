pub mod Renewing
pub mod Standing
pub mod Timely
pub mod Logs
pub mod Differing
pub mod Taking
