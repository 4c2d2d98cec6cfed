pub mod Stated
pub mod Made
pub mod Ends
pub mod Marks
pub mod PlanView
