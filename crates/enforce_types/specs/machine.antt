pub mod Cases
pub mod OperandAnswers
pub mod PlanLaws
pub mod TypedPolicies
pub mod PolicyLaws
pub mod VariableSorts
pub mod SortLaws
