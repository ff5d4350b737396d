-- That what sleeps misses nothing and becomes itself.
use Rattle.enf_data.specs.declared.steps.Step.{Step}
use Rattle.enf_data.specs.declared.terms.VarId.{VarId}
use Rattle.std.specs.Prelude.{◌≡◌, ◌≤◌, false, List, [], ◌∷◌, ◌++◌}
use Rattle.trace_meaning.specs.meaning.Traces.{last_time}
use Rattle.enf_formula.specs.meaning.Satisfaction.{Formula}
use Rattle.plan_terms.specs.meaning.Plans.{Plan}
use Rattle.obligations.specs.declared.instances.Instance.{Instance}
use Rattle.obligations.specs.declared.literals.Literal.{Literal}
use Rattle.obligations.specs.machine.AskablePlans.{CanAskOf}
use Rattle.obligations.specs.machine.PlanClasses.{PlansStand}
use Rattle.obligations.specs.machine.UnmetGoals.{IsUnmetOf}
use Rattle.obligations.specs.meaning.Obligations.{time_now}
use Rattle.obligations.specs.meaning.Pending.{MissingOf, After, node_of}
use Rattle.pending.specs.machine.InstancePatterns.{InstanceIsEarly, InstanceSleeps, IsWindowNotOver}

-- an instance that sleeps misses nothing, where it is not forced
abbrev pub SleepersMissNothing : Type 0
SleepersMissNothing = (guards : List (Formula × List VarId)) (plans : List Plan) (trace : List Step) (i : Instance)
    → CanAskOf guards plans i → InstanceSleeps plans trace i
    → (literals : List Literal) → MissingOf plans trace i false literals → literals ≡ []

-- an instance that sleeps at a step after a trace becomes itself, where its goal was not met at the end of the trace
abbrev pub SleepersStay : Type 0
SleepersStay = (guards : List (Formula × List VarId)) (plans : List Plan) (trace : List Step) (step : Step)
    (i : Instance) → PlansStand plans → CanAskOf guards plans i → InstanceSleeps plans (trace ++ step ∷ []) i
    → IsWindowNotOver (node_of plans i) i (time_now (trace ++ step ∷ []))
    → last_time trace ≤ step.time → IsUnmetOf plans trace i
    → (after : List Instance) → After plans (trace ++ step ∷ []) i after → after ≡ i ∷ []

-- one whose window has not begun misses nothing
abbrev pub EarlyMissNothing : Type 0
EarlyMissNothing = (guards : List (Formula × List VarId)) (plans : List Plan) (trace : List Step) (i : Instance)
    → CanAskOf guards plans i → InstanceIsEarly plans trace i
    → (literals : List Literal) → MissingOf plans trace i false literals → literals ≡ []

-- and becomes itself
abbrev pub EarlyStay : Type 0
EarlyStay = (guards : List (Formula × List VarId)) (plans : List Plan) (trace : List Step) (i : Instance)
    → CanAskOf guards plans i → InstanceIsEarly plans trace i
    → (after : List Instance) → After plans trace i after → after ≡ i ∷ []
