-- How what is pending grows along a trace, and where it came from.
use Rattle.enf_data.specs.declared.steps.Step.{Step}
use Rattle.enf_data.specs.declared.terms.VarId.{VarId}
use Rattle.std.specs.List.{AllByRecursion}
use Rattle.std.specs.Prelude.{ℕ, List, All, length, ◌+◌, [], ◌∷◌, ◌++◌, ◌≡◌, ◌<◌, Contains}
use Rattle.std.specs.Prelude.{Some}
use Rattle.enf_formula.specs.meaning.Satisfaction.{Formula}
use Rattle.plan_terms.specs.meaning.Plans.{Plan}
use Rattle.plan_terms.specs.machine.WellFormed.{AreWellFormed}
use Rattle.obligations.specs.declared.instances.Instance.{Instance}
use Rattle.obligations.specs.machine.PlanClasses.{PlansStand, LooksAtNow}
use Rattle.obligations.specs.machine.TriggeredNodes.{IsBegunBy}
use Rattle.obligations.specs.meaning.Pending.{NoneIsOver, Pend, PendingAfter, node_of, IsClean, IsCleanAt}
use Rattle.obligations.specs.meaning.PendingBounds.{CanBePending}

-- what is pending after a trace can be so, at a clock at which no deadline is over
abbrev pub PendCanBePending : Type 0
PendCanBePending = (plans : List Plan) (guards : List (Formula × List VarId)) (trace : List Step) (clock : ℕ)
    (pending : List Instance) → AreWellFormed plans guards → Pend plans trace pending
    → NoneIsOver plans pending clock → All (CanBePending plans clock (length trace)) pending

-- what is pending after one step more was led there by that step
abbrev pub PendCame : Type 0
PendCame = (plans : List Plan) (trace : List Step) (step : Step) (after : List Instance)
    → Pend plans (trace ++ step ∷ []) after
    → (before : List Instance) × Pend plans trace before × PendingAfter plans (trace ++ step ∷ []) before after

-- what is pending after a trace was begun at one of its steps
abbrev pub PendingWasBegun : Type 0
PendingWasBegun = (plans : List Plan) (trace : List Step) (pending : List Instance) (i : Instance) → PlansStand plans
    → Pend plans trace pending → Contains pending i
    → (node : Plan) × (node_of plans i ≡ Some node) × (front more : List Step) × (front ++ more ≡ trace)
    × (0 < length front) × IsBegunBy front i.rule node i

-- plans that do not look ahead leave nothing pending
abbrev pub NothingIsPending : Type 0
NothingIsPending = (plans : List Plan) (trace : List Step) (pending : List Instance)
    → AllByRecursion LooksAtNow plans → Pend plans trace pending → pending ≡ []

-- with one step more, what is pending goes where that step leads it
abbrev pub PendGrows : Type 0
PendGrows = (plans : List Plan) (trace : List Step) (step : Step) (before after : List Instance)
    → Pend plans trace before → PendingAfter plans (trace ++ step ∷ []) before after
    → Pend plans (trace ++ step ∷ []) after

-- with one step more, the trace is clean where the step is
abbrev pub CleanGrows : Type 0
CleanGrows = (plans : List Plan) (trace : List Step) (step : Step) (before : List Instance)
    → IsClean plans trace → Pend plans trace before → IsCleanAt plans (trace ++ step ∷ []) before
    → IsClean plans (trace ++ step ∷ [])
