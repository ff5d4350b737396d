pub mod Vocabulary
pub mod BindLemmas
pub mod ByteFronts
pub mod NumberLemmas
pub mod OneAction
pub mod ReadLemmas
pub mod RowLemmas
