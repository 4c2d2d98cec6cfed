pub mod GreenLemmas
pub mod RunLemmas
pub mod HeadingLemmas
pub mod CourseLemmas
pub mod PeriodLemmas
