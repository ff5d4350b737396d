pub mod Agreement
pub mod Cases
pub mod FormulaViews
pub mod Laws
pub mod Polarity
pub mod Variables
pub mod FormulaShape
