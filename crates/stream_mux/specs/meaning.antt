pub mod MergedStreams
pub mod TaggedGrammar
