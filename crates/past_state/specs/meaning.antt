pub mod KeptRows
pub mod RowBounds
