pub mod DefinedNames
pub mod UnfoldedFormulas
