pub mod AboveLemmas
pub mod BoundLemmas
pub mod CourseLemmas
pub mod PeriodLemmas
pub mod LogLemmas
pub mod AuditLemmas
pub mod DifferLemmas
