pub mod Vocabulary
pub mod Dependence
pub mod Gathering
pub mod NameLemmas
pub mod PolarityLemmas
pub mod SameValues
pub mod Stability
pub mod VariableLaws
