pub mod AcceptedPlans
pub mod Horizon
pub mod Ranked
pub mod Refusals
