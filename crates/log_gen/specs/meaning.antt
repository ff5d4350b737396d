pub mod Samples
pub mod GeneratedLogs
