pub mod Obligations
pub mod Pending
pub mod PendingBounds
