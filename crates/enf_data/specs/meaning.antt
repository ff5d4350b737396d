pub mod Membership
pub mod Data
pub mod Texts
pub mod Valuations
pub mod Values
