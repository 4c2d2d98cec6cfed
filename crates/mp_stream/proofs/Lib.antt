pub mod LineLemmas
pub mod ProgressLemmas
pub mod HeadLemmas
pub mod KindLemmas
pub mod BucketLemmas
pub mod AboveLemmas
