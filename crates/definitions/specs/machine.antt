pub mod Cases
pub mod Laws
pub mod StoredTables
pub mod WellDefined
