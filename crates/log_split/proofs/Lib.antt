pub mod StreamLemmas
pub mod KeyLemmas
pub mod TakingLemmas
