-- That what is pending is owed, and what is missed of it is lost.
use Rattle.enf_data.specs.declared.steps.Step.{Step}
use Rattle.enf_data.specs.meaning.Data.{IsTrace}
use Rattle.enf_data.specs.meaning.Valuations.{Valuation}
use Rattle.std.specs.List.{AllByRecursion}
use Rattle.std.specs.Prelude.{◌<◌, List, ◌++◌, ◌∷◌, length, ◌≡◌, ℕ, Contains, Some, ◌+◌, Bool}
use Rattle.std.specs.Prelude.{cond, true, []}
use Rattle.enf_formula.specs.meaning.Satisfaction.{Sat}
use Rattle.plan_terms.specs.machine.GuardProperties.{GuardLooksBack}
use Rattle.plan_terms.specs.machine.NamedNodes.{StandsIn}
use Rattle.plan_terms.specs.meaning.Plans.{nodes, formula_for, Plan}
use Rattle.plan_terms.specs.meaning.Owed.{IsOwed, IsLost, obligation}
use Rattle.plan_terms.specs.machine.WellFormed.{EndsInTime}
use Rattle.obligations.specs.declared.instances.Instance.{Instance}
use Rattle.obligations.specs.declared.literals.Literal.{Literal}
use Rattle.obligations.specs.machine.PlanClasses.{PlansStand}
use Rattle.obligations.specs.meaning.Obligations.{IsNeeded, ServesLiteral, Missing, last_position}
use Rattle.obligations.specs.meaning.Pending.{IsClean, Pend, node_of, HasDeadline, MissingOf, NoneIsOver}

-- where a plan misses something at the last position of a trace, no longer trace satisfies its formula at that position
abbrev pub SomethingMissedIsLost : Type 0
SomethingMissedIsLost = (plan : Plan) (trace more : List Step) (v : Valuation) (first : Literal) (rest : List Literal)
    → AllByRecursion GuardLooksBack (nodes plan) → 0 < length trace → Missing trace plan v (first ∷ rest)
    → Sat (trace ++ more) (last_position trace) v (formula_for plan) → ⊥

-- what is pending after a clean trace is owed there, whatever the clock
abbrev pub PendingIsOwed : Type 0
PendingIsOwed = (plans : List Plan) (trace : List Step) (clock : ℕ) (pending : List Instance) (i : Instance)
    (node : Plan) → PlansStand plans → IsTrace trace → IsClean plans trace → Pend plans trace pending
    → Contains pending i → node_of plans i ≡ Some node
    → IsOwed plans trace clock i.rule node i.valuation i.origin

-- what is pending after a trace was begun at one of its positions
abbrev pub PendingIsEarlier : Type 0
PendingIsEarlier = (plans : List Plan) (trace : List Step) (pending : List Instance) (i : Instance) (node : Plan)
    → PlansStand plans → IsTrace trace → Pend plans trace pending → Contains pending i
    → node_of plans i ≡ Some node → i.origin < length trace

-- a step that is inserted at a deadline of what is pending is needed
abbrev pub DeadlineIsNeeded : Type 0
DeadlineIsNeeded = (plans : List Plan) (trace : List Step) (pending : List Instance) (i : Instance) (deadline : ℕ)
    → PlansStand plans → IsTrace trace → IsClean plans trace → Pend plans trace pending → Contains pending i
    → HasDeadline plans i deadline → IsNeeded plans trace deadline

-- the least time after a step at which something can be forced, and at which nothing is
abbrev pub time_behind : (forced : Bool) → (time : ℕ) → ℕ
time_behind forced time = cond forced (time + 1) time

-- where an instance that was pending after a trace misses something at a step more, its node is lost from there on
abbrev pub SomethingMissedIsLostPending : Type 0
SomethingMissedIsLostPending = (plans : List Plan) (trace : List Step) (step : Step) (pending : List Instance)
    (i : Instance) (node : Plan) (forced : Bool) (first : Literal) (rest : List Literal) → PlansStand plans
    → IsTrace (trace ++ step ∷ []) → Pend plans trace pending → Contains pending i
    → node_of plans i ≡ Some node → (forced ≡ true → step.time ≡ i.high)
    → MissingOf plans (trace ++ step ∷ []) i forced (first ∷ rest)
    → IsLost (trace ++ step ∷ []) (time_behind forced step.time) node i.valuation i.origin

-- what a plan misses at the last position it leads to there
abbrev pub MissedIsServed : Type 0
MissedIsServed = (plans : List Plan) (rule : ℕ) (trace : List Step) (clock : ℕ) (plan : Plan) (v : Valuation)
    (literals : List Literal) (literal : Literal) → StandsIn plans rule plan → 0 < length trace
    → Missing trace plan v literals → Contains literals literal
    → ServesLiteral trace clock (obligation plan v (last_position trace)) literal

-- what was pending after a trace leads to what it misses at a step more, where no deadline is over
abbrev pub MissedIsServedPending : Type 0
MissedIsServedPending = (plans : List Plan) (trace : List Step) (step : Step) (clock : ℕ) (pending : List Instance)
    (i : Instance) (node : Plan) (forced : Bool) (literals : List Literal) (literal : Literal) → PlansStand plans
    → IsTrace (trace ++ step ∷ []) → Pend plans trace pending
    → NoneIsOver plans pending step.time
    → Contains pending i → node_of plans i ≡ Some node → EndsInTime node
    → (forced ≡ true → step.time ≡ i.high)
    → MissingOf plans (trace ++ step ∷ []) i forced literals → Contains literals literal
    → ServesLiteral (trace ++ step ∷ []) clock (obligation node i.valuation i.origin) literal
