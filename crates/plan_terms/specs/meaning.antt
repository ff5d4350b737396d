pub mod Owed
pub mod Scopes
pub mod Plans
