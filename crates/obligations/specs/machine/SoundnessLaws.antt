-- That where nothing is missed, it is enough to meet what is begun or pending.
use Rattle.enf_data.specs.declared.steps.Step.{Step}
use Rattle.enf_data.specs.meaning.Data.{IsTrace}
use Rattle.enf_data.specs.meaning.Valuations.{Valuation, no_values}
use Rattle.std.specs.List.{AllByRecursion}
use Rattle.std.specs.Prelude.{ℕ, ◌<◌, List, ◌++◌, [], length, ◌≡◌, false, ◌∷◌, Some}
use Rattle.enf_formula.specs.meaning.Satisfaction.{Sat}
use Rattle.plan_terms.specs.machine.NamedNodes.{StandsIn}
use Rattle.plan_terms.specs.meaning.Plans.{formula_for, Plan}
use Rattle.obligations.specs.declared.instances.Instance.{Instance}
use Rattle.obligations.specs.machine.PlanClasses.{PlansStand}
use Rattle.obligations.specs.machine.Residuals.{Residual}
use Rattle.obligations.specs.meaning.Obligations.{Begun, time_now, Missing, last_position}
use Rattle.obligations.specs.meaning.Pending.{After, MissingOf, NoneIsOver, node_of, IsClean, IsCleanAt, Pend}
use Rattle.obligations.specs.meaning.Pending.{PendingAfter}

-- where a plan misses nothing at the last position of a trace, each longer trace whose positions after it meet what is
-- begun there satisfies the plan's formula at that position
abbrev pub NothingMissedIsEnough : Type 0
NothingMissedIsEnough = (plans : List Plan) (rule : ℕ) (plan : Plan) (trace more : List Step) (v : Valuation)
    (begun : List Instance) → StandsIn plans rule plan → IsTrace (trace ++ more) → 0 < length trace
    → Missing trace plan v [] → Begun trace rule plan v begun
    → AllByRecursion (Residual plans (trace ++ more) (length trace)) begun
    → Sat (trace ++ more) (last_position trace) v (formula_for plan)

-- where an instance of a node misses nothing at the last position of a trace, and has no deadline that is over, each
-- longer trace whose positions after it meet what the instance becomes meets from this position on what it was owed
abbrev pub NothingMissedIsEnoughPending : Type 0
NothingMissedIsEnoughPending = (plans : List Plan) (node : Plan) (trace more : List Step) (i : Instance)
    (after : List Instance) → node_of plans i ≡ Some node → StandsIn plans i.rule node
    → IsTrace (trace ++ more) → 0 < length trace
    → MissingOf plans trace i false [] → NoneIsOver plans (i ∷ []) (time_now trace)
    → After plans trace i after
    → AllByRecursion (Residual plans (trace ++ more) (length trace)) after
    → Residual plans (trace ++ more) (last_position trace) i

-- the formula of each plan holds at a position, under no binding
abbrev pub AllHold : List Step → ℕ → List Plan → Type 0
AllHold trace position plans = AllByRecursion (λ plan. Sat trace position no_values (formula_for plan)) plans

-- where nothing is missed at the last position of a trace, and no deadline of what was pending before it is over, each
-- longer trace that meets after it what is pending meets from this position on what was pending, and satisfies all plans
-- there
abbrev pub StepIsEnough : Type 0
StepIsEnough = (plans : List Plan) (trace more : List Step) (before after : List Instance) → PlansStand plans
    → IsTrace (trace ++ more) → 0 < length trace → IsCleanAt plans trace before → PendingAfter plans trace before after
    → AllByRecursion (Residual plans (trace ++ more) (length trace)) after
    → AllByRecursion (Residual plans (trace ++ more) (last_position trace)) before
    × AllHold (trace ++ more) (last_position trace) plans

-- where a trace is clean, a longer one that meets after it what is pending satisfies all plans at each position of the
-- shorter one
abbrev pub PendingIsEnough : Type 0
PendingIsEnough = (plans : List Plan) (trace more : List Step) (pending : List Instance) → PlansStand plans
    → IsTrace (trace ++ more) → IsClean plans trace → Pend plans trace pending
    → AllByRecursion (Residual plans (trace ++ more) (length trace)) pending
    → (position : ℕ) → position < length trace → AllHold (trace ++ more) position plans
