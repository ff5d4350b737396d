pub mod Columns
pub mod Grammar
pub mod Refusals
