pub mod EnforcerProgress
pub mod GuardRuns
