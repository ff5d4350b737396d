pub mod Vocabulary
pub mod UnfoldedTruth
pub mod DefinitionTruth
pub mod PlainTruth
