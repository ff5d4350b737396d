pub mod Turns
pub mod MuxQueues
pub mod MuxStates
pub mod Laws
pub mod Cases
pub mod TagLaws
