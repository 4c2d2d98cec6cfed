pub mod AccountLemmas
pub mod KeptLemmas
pub mod ProgressLemmas
pub mod SizeLemmas
