pub mod machine
