pub mod Cases
pub mod EndScans
pub mod StepLimits
pub mod Laws
pub mod LogReaders
pub mod RecordStates
