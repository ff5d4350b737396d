pub mod Cases
pub mod EdgeTables
pub mod Laws
pub mod Roles
pub mod Limits
pub mod PlanWalks
pub mod Surveys
pub mod TransparencyLaws
