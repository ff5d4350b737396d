pub mod Cases
pub mod KnownTruths
pub mod WakePatterns
pub mod Laws
