pub mod StoredKeys
pub mod FirstHindrances
pub mod Laws
pub mod Cases
