pub mod Bindings
pub mod Comparisons
pub mod Tables
pub mod Laws
pub mod RowParts
