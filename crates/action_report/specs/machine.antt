pub mod Cases
pub mod ReportedActions
pub mod Laws
pub mod LineParts
