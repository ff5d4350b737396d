pub mod Codes
pub mod EventSets
pub mod StoredEvents
pub mod ValueTests
pub mod RowOrders
pub mod SeededHashes
