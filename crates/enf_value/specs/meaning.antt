pub mod FirstRefusal
pub mod Tokens
