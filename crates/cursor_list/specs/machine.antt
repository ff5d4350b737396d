pub mod NodePlaces
pub mod Split
