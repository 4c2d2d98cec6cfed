pub mod Evens
pub mod Trails
pub mod Growing
pub mod Forming
pub mod Laws
pub mod Cases
