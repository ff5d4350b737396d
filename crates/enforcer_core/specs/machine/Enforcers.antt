-- What is seen of an enforcer.
use Rattle.enf_data.specs.declared.steps.Step.{Step}
use Rattle.std.specs.Prelude.{ℕ, Bool, Option, List}
use Rattle.trace_meaning.specs.meaning.Traces.{Start}
use Rattle.plan_terms.specs.meaning.Plans.{Plan}
use Rattle.past_state.specs.machine.Past.{Past}
use Rattle.pending.specs.machine.PendingLists.{PendingList}
use Rattle.enforce_types.specs.machine.TypedPolicies.{StoredTyped, typed_of}

-- the policy that it keeps, what the guards remember, what is pending, the number of the steps that were emitted, the
-- time of the last of them, the time below which all is over, and whether it answers no more
pub record Enforcing : Type 0 where
  pub policy : StoredTyped
  pub past : Past
  pub pending : PendingList
  pub position : ℕ
  pub last : Option ℕ
  pub clock : ℕ
  pub stopped : Bool

abbrev pub policy_plans : StoredTyped → List Plan
policy_plans policy = (typed_of policy).plans

abbrev pub enforcer_plans : Enforcing → List Plan
enforcer_plans enforcer = policy_plans enforcer.policy

-- the start from which a log goes on, where the enforcer stands for a trace
abbrev pub start_of : Enforcing → List Step → Start
start_of enforcer trace = record { trace = trace; clock = enforcer.clock }
