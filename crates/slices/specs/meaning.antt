pub mod Slices
pub mod SlicedLogs
pub mod Verdicts
pub mod SlicedRules
