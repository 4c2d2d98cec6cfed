pub mod CheckLemmas
pub mod PrintLemmas
pub mod ReadLemmas
pub mod GreenLemmas
pub mod HeaderLemmas
pub mod RuleLemmas
pub mod TextLemmas
pub mod SurplusLemmas
pub mod BurstLemmas
pub mod RestLemmas
mod Worked
