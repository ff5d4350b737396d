pub mod machine
pub mod meaning
