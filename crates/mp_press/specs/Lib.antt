pub mod Queues
pub mod Written
pub mod Presses
pub mod LinkSums
pub mod Weighed
pub mod CacheView
