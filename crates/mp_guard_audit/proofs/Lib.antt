pub mod HeadingLemmas
pub mod LogLemmas
pub mod LineLemmas
pub mod DifferLemmas
