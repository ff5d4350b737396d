-- How far an enforcer is on a log.
use Rattle.enf_data.specs.declared.steps.Step.{Step}
use Rattle.std.specs.Prelude.{◌≡◌, false, List, ◌+◌, ◌≤◌}
use Rattle.enforce_types.specs.machine.TypedPolicies.{WorkTogether, typed_of}
use Rattle.enforcer_core.specs.machine.Enforcers.{Enforcing}
use Rattle.enforcer_core.specs.machine.Stands.{Stands}
use Rattle.enf_cases.specs.declared.enforcing.TheConstants.{MOST_TIME}

-- an enforcer has taken nothing
abbrev pub HasTakenNothing : Enforcing → Type 0
HasTakenNothing enforcer = (enforcer.position ≡ 0) × (enforcer.clock ≡ 0)

-- an enforcer goes on, under plans that can work together, and stands for some trace
pub record IsStandingEnforcer (enforcer : Enforcing) : Type 0 where
  pub goes_on : enforcer.stopped ≡ false
  pub together : WorkTogether (typed_of enforcer.policy)
  pub trace : List Step
  pub stands : Stands enforcer trace

-- an enforcer has gone on with one record by one step, and one for each time that passed, at most
pub record IsFurtherByRecord (before after : Enforcing) : Type 0 where
  pub steps : after.position + before.clock ≤ before.position + 1 + after.clock
  pub in_time : after.clock ≤ MOST_TIME

-- an enforcer stands for a trace where the one before it did
abbrev pub StaysStanding : Enforcing → Enforcing → Type 0
StaysStanding before after = IsStandingEnforcer before → IsStandingEnforcer after

-- an enforcer is where another one was, and stands for a trace
pub record IsResumedFrom (before after : Enforcing) : Type 0 where
  pub position : after.position ≡ before.position
  pub clock : after.clock ≡ before.clock
  pub stands : IsStandingEnforcer after
