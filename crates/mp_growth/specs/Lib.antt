pub mod Formed
pub mod OnTrail
pub mod TrailView
