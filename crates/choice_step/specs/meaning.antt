pub mod Choice
pub mod Follows
pub mod ActedSteps
