-- The laws of what an enforcer does for records, on which the run of a log rests.
use Rattle.trace_meaning.specs.machine.Laws.{FrontIsGood, SatisfyingIsGood}
use Rattle.enforce_types.specs.machine.PolicyLaws.{OnePlans}
use Rattle.enforcer_core.specs.machine.CourseLaws.{CourseIsJustified, CourseIsJustifiedToEnd, CourseBegins}
use Rattle.enforcer_core.specs.machine.CourseLaws.{CourseEnforces, CourseFollows, CourseFollowsToEnd, CourseGoesOn}
use Rattle.enforcer_core.specs.machine.CourseLaws.{CourseKeepsUp, CourseIsTransparent, CourseIsTransparentToEnd}
use Rattle.enforcer_core.specs.machine.EnforcerSteps.{TakesAreFew}
use Rattle.enforcer_core.specs.machine.ExistenceLaws.{JustOneFollowsPolicy, JustOneFollowsToEnd}
use Rattle.enforcer_core.specs.machine.Laws.{PlannedAreSatisfied}

-- the laws of what an enforcer does for records, on which the run of a log rests
pub record EnforcerLaws : Type 0 where
  pub few : TakesAreFew
  pub begins : CourseBegins
  pub goes_on : CourseGoesOn
  pub keeps_up : CourseKeepsUp
  pub enforces : CourseEnforces
  pub follows : CourseFollows
  pub follows_to_end : CourseFollowsToEnd
  pub justified : CourseIsJustified
  pub justified_to_end : CourseIsJustifiedToEnd
  pub transparent : CourseIsTransparent
  pub transparent_to_end : CourseIsTransparentToEnd
  pub one_plans : OnePlans
  pub just_one : JustOneFollowsPolicy
  pub just_one_to_end : JustOneFollowsToEnd
  pub planned : PlannedAreSatisfied
  pub front : FrontIsGood
  pub satisfying : SatisfyingIsGood
