pub mod GrownSlots
pub mod LastRows
