pub mod Resolution
pub mod SortRefusals
pub mod PolicyAnswers
pub mod RuleText
