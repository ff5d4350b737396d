pub mod FollowsPolicy
pub mod JustifiedByPolicy
