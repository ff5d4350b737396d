-- What an enforcer is between two calls, whatever trace it stands for.
use Rattle.std.specs.Prelude.{ℕ, false, ◌≤◌, ◌≡◌}
use Rattle.past_state.specs.machine.Guards.{AreCopies}
use Rattle.obligations.specs.declared.present_step.TheConstants.{MOST_TIME}
use Rattle.obligations.specs.meaning.Pending.{NoneIsOver}
use Rattle.rank_check.specs.declared.horizon.TheConstants.{MOST_HORIZON}
use Rattle.enforce_types.specs.machine.TypedPolicies.{StoredTyped, typed_of, WorkTogether}
use Rattle.enforcer_core.specs.declared.step_memory.Remembered.{Remembered}
use Rattle.enforcer_core.specs.machine.Enforcers.{Enforcing, enforcer_plans}
use Rattle.enforcer_core.specs.machine.Reach.{reach_of}
use Rattle.enforcer_core.specs.machine.StepMemory.{CanDecideAt}

-- what an enforcer remembers
abbrev pub remembered_in : Enforcing → Remembered
remembered_in enforcer =
    record { past = enforcer.past; pending = enforcer.pending; position = enforcer.position; last = enforcer.last }

-- an enforcer that remembers this and goes on, at a clock
abbrev pub enforcing_at : StoredTyped → Remembered → (clock : ℕ) → Enforcing
enforcing_at policy r clock = record {
  policy = policy;
  past = r.past;
  pending = r.pending;
  position = r.position;
  last = r.last;
  clock = clock;
  stopped = false;
}

-- up to when something is owed of what an enforcer has pending
abbrev pub reach_in : Enforcing → ℕ
reach_in enforcer =
    reach_of (typed_of enforcer.policy).ranked.ranks (enforcer_plans enforcer) enforcer.pending.instances

-- whatever it stands for, it remembers for the guards of its policy, its plans can be asked at its clock and later, no
-- deadline is below its clock, and what it has pending is owed for no longer than inserted steps can be emitted
pub record IsServing (enforcer : Enforcing) : Type 0 where
  pub guards : AreCopies enforcer.policy.guards enforcer.past.guards
  pub can : (time : ℕ) → enforcer.clock ≤ time → CanDecideAt (enforcer_plans enforcer) (remembered_in enforcer)
      time
  pub over : NoneIsOver (enforcer_plans enforcer) enforcer.pending.instances enforcer.clock
  pub in_reach : reach_in enforcer ≤ MOST_TIME

-- the plans of an enforcer can work together, its horizon is bounded, and it serves as long as it is not stopped
pub record IsEnforcing (enforcer : Enforcing) : Type 0 where
  pub together : WorkTogether (typed_of enforcer.policy)
  pub bounded : (typed_of enforcer.policy).ranked.horizon ≤ MOST_HORIZON
  pub serves : enforcer.stopped ≡ false → IsServing enforcer
