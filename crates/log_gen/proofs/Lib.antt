pub mod GeneratedTexts
pub mod PutEvents
pub mod SamplePolicy
pub mod SampleSignature
pub mod StepLaws
pub mod StepLimits
pub mod StepLines
pub mod TextLaws
