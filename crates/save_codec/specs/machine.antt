pub mod KnownSorts
pub mod LineParts
pub mod BoundJudgements
pub mod Cases
pub mod ResumeAnswers
pub mod SoundStates
pub mod Laws
pub mod StoredStates
