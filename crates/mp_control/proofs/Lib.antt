pub mod RowLemmas
pub mod SizeLemmas
pub mod LineLemmas
pub mod AnswerLemmas
pub mod ProgressLemmas
