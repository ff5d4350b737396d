pub mod Vocabulary
pub mod NumberedVariables
pub mod GivenTerms
pub mod CopyMeaning
pub mod Conjunctions
pub mod CountMeaning
pub mod FreeInCounts
