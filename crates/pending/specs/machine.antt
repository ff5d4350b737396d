pub mod InstancePatterns
pub mod Moments
pub mod Waits
pub mod PendingEntries
pub mod EntrySteps
pub mod Laws
pub mod PendingLists
pub mod AskedEntries
