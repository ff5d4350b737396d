-- When a call or a drain is refused, and what each answer leaves.
use Rattle.std.specs.Prelude.{◌≡◌, false, ℕ, ◌≤◌, ◌<◌, true, Result, Ok, Err, ◌+◌, List}
use Rattle.std.specs.Prelude.{[], ◌∷◌}
use Rattle.choice_step.specs.meaning.ActedSteps.{ActedStep}
use Rattle.enforce_types.specs.machine.TypedPolicies.{StoredTyped}
use Rattle.enforcer_core.specs.declared.steps.StepRefusal.{StepRefusal}
use Rattle.enforcer_core.specs.declared.steps.StepRefusal.TheVariants.{Falling, Stopped, NoMemory}
use Rattle.enforcer_core.specs.declared.steps.Untaken.{Untaken}
use Rattle.enforcer_core.specs.machine.Enforcers.{Enforcing}
use Rattle.enforcer_core.specs.declared.steps.Untaken.TheVariants as untaken

-- an enforcer of the policy that has taken nothing
pub record IsNewEnforcer (typed : StoredTyped) (enforcer : Enforcing) : Type 0 where
  pub policy : enforcer.policy ≡ typed
  pub position : enforcer.position ≡ 0
  pub clock : enforcer.clock ≡ 0
  pub goes_on : enforcer.stopped ≡ false

-- the enforcer goes on, and the time is not below its clock
pub record IsCallInTime (enforcer : Enforcing) (time : ℕ) : Type 0 where
  pub goes_on : enforcer.stopped ≡ false
  pub not_over : enforcer.clock ≤ time

-- why a call is refused: Stopped where the enforcer was stopped, else Falling where the time is below its clock
abbrev pub RefusesCall : Enforcing → ℕ → StepRefusal → Type 0
RefusesCall enforcer time Stopped = enforcer.stopped ≡ true
RefusesCall enforcer time (Falling clock given) =
    (enforcer.stopped ≡ false) × (time < enforcer.clock) × (clock ≡ enforcer.clock) × (given ≡ time)
RefusesCall enforcer time NoMemory = IsCallInTime enforcer time

-- the refusal of a call that is not taken
abbrev pub refused_as : Untaken → StepRefusal
refused_as (untaken.Falling clock given) = Falling clock given
refused_as untaken.Stopped = Stopped

-- whether a call is taken, and else why it is not
abbrev pub Admits : Enforcing → ℕ → Result (Unit {0}) Untaken → Type 0
Admits enforcer time (Ok taken) = IsCallInTime enforcer time
Admits enforcer time (Err untaken) = RefusesCall enforcer time (refused_as untaken)

-- an enforcer was stopped by running out of memory; nothing else is said of what it remembers
pub record IsStoppedIn (before after : Enforcing) : Type 0 where
  pub policy : after.policy ≡ before.policy
  pub clock : after.clock ≡ before.clock
  pub stopped : after.stopped ≡ true

-- what a refusal leaves: running out of memory stops the enforcer, the others change nothing
abbrev pub Leaves : StepRefusal → Enforcing → Enforcing → Type 0
Leaves Stopped before after = after ≡ before
Leaves (Falling clock given) before after = after ≡ before
Leaves NoMemory before after = IsStoppedIn before after

-- what an Ok leaves: the clock at a time, and so many positions more
pub record EnforcerGoesOn (before : Enforcing) (clock steps : ℕ) (after : Enforcing) : Type 0 where
  pub policy : after.policy ≡ before.policy
  pub clock_is : after.clock ≡ clock
  pub position : after.position ≡ before.position + steps
  pub goes_on : after.stopped ≡ false

-- the clock after a drain: after the last step that is emitted, or where it was
abbrev pub clock_drained : ℕ → List ActedStep → ℕ
clock_drained clock [] = clock
clock_drained clock (o ∷ out) = clock_drained (o.step.time + 1) out

-- why a drain is refused: no time is given, so none falls
abbrev pub RefusesDrain : Enforcing → StepRefusal → Type 0
RefusesDrain enforcer Stopped = enforcer.stopped ≡ true
RefusesDrain enforcer (Falling clock given) = ⊥
RefusesDrain enforcer NoMemory = enforcer.stopped ≡ false
