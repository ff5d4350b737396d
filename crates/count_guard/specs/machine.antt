pub mod Cases
pub mod CopyMeanings
pub mod Laws
pub mod StoredCopies
