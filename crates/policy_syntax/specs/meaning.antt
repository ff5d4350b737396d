pub mod Lexemes
pub mod Trees
pub mod Phrases
pub mod Grammar
pub mod Refusals
