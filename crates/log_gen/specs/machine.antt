pub mod Generators
pub mod Laws
pub mod SampleTexts
