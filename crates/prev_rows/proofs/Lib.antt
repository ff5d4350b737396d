pub mod Vocabulary
pub mod GrownLemmas
