pub mod Vocabulary
pub mod Chained
pub mod Cuts
pub mod Kept
pub mod Memory
