pub mod Adapters
pub mod FileDraws
pub mod KeptFiles
pub mod CalmDevices
pub mod MemDevices
pub mod StreamCalls
pub mod Turns
