pub mod EnforcingLemmas
pub mod RunningLemmas
