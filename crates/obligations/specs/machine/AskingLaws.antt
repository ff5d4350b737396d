-- That what a policy of well-formed plans begins and leaves pending can be asked.
use Rattle.enf_data.specs.declared.events.NameId.{NameId}
use Rattle.enf_data.specs.declared.steps.Step.{Step}
use Rattle.enf_data.specs.declared.terms.VarId.{VarId}
use Rattle.enf_data.specs.meaning.Valuations.{Valuation}
use Rattle.std.specs.List.{AllByRecursion}
use Rattle.std.specs.Prelude.{ℕ, List, map, ◌≡◌, ◌≤◌, [], ◌∷◌, ◌++◌, length, Contains, Some}
use Rattle.enf_formula.specs.meaning.Satisfaction.{Formula}
use Rattle.monitorable_guard.specs.machine.Guards.{BoundFormula}
use Rattle.trace_meaning.specs.meaning.Traces.{last_time}
use Rattle.plan_terms.specs.machine.GuardProperties.{guards_of}
use Rattle.plan_terms.specs.machine.NamedNodes.{StandsIn}
use Rattle.plan_terms.specs.meaning.Plans.{nodes, Plan}
use Rattle.plan_terms.specs.machine.WellFormed.{EndsInTime, AreWellFormed}
use Rattle.past_state.specs.declared.guards.PlacedGuard.{PlacedGuard}
use Rattle.past_state.specs.machine.GuardPlaces.{placed_guard}
use Rattle.past_state.specs.machine.Guards.{AreCopies}
use Rattle.past_state.specs.machine.Past.{GuardsWillHold, Past, PastStands, guard_names}
use Rattle.obligations.specs.declared.instances.Instance.{Instance}
use Rattle.obligations.specs.declared.present_step.Now.{Now}
use Rattle.obligations.specs.machine.AskablePlans.{CanAskPlan, CanAskOf, CanAskRoots}
use Rattle.obligations.specs.machine.FreshGuards.{HaveSameFreshEvents, guards_now}
use Rattle.obligations.specs.machine.MovedPlans.{IgnoresIn}
use Rattle.obligations.specs.machine.PlanClasses.{PlansStand}
use Rattle.obligations.specs.machine.PresentStep.{IsNowOf}
use Rattle.obligations.specs.meaning.Obligations.{Begun}
use Rattle.obligations.specs.meaning.Pending.{PendingAfter, Pend, node_of}

-- what a plan begins that can be asked can be asked
abbrev pub BegunCanBeAsked : Type 0
BegunCanBeAsked = (guards : List (Formula × List VarId)) (plans : List Plan) (trace : List Step) (rule : ℕ)
    (plan : Plan) (v : Valuation) (begun : List Instance) → StandsIn plans rule plan → CanAskPlan guards plan v
    → AllByRecursion EndsInTime (nodes plan) → Begun trace rule plan v begun
    → AllByRecursion (CanAskOf guards plans) begun

-- what is pending after a step can be asked, where what was pending before it could
abbrev pub PendingAfterCanBeAsked : Type 0
PendingAfterCanBeAsked = (guards : List (Formula × List VarId)) (plans : List Plan) (trace : List Step)
    (before after : List Instance) → PlansStand plans → CanAskRoots guards plans
    → AllByRecursion (CanAskOf guards plans) before → PendingAfter plans trace before after
    → AllByRecursion (CanAskOf guards plans) after

-- what is pending after a trace can be asked, whatever trace it is
abbrev pub PendCanBeAsked : Type 0
PendCanBeAsked = (guards : List (Formula × List VarId)) (plans : List Plan) (trace : List Step)
    (pending : List Instance) → PlansStand plans → CanAskRoots guards plans → Pend plans trace pending
    → AllByRecursion (CanAskOf guards plans) pending

-- the plans of a policy can be asked at a step with its guards
abbrev pub WellFormedCanBeAsked : Type 0
WellFormedCanBeAsked = (plans : List Plan) (guards : List (Formula × List VarId)) → AreWellFormed plans guards
    → CanAskRoots guards plans

-- the plans of a policy can be asked at a step with copies of its guards
abbrev pub CanBeAsked : Type 0
CanBeAsked = (plans : List Plan) (guards : List BoundFormula) (placed : List PlacedGuard)
    → AreWellFormed plans (guards_of guards) → AreCopies guards placed
    → CanAskRoots (map placed_guard placed) plans

-- the nodes of the plans of a policy stand in them
abbrev pub WellFormedStand : Type 0
WellFormedStand = (plans : List Plan) (guards : List (Formula × List VarId)) → AreWellFormed plans guards
    → PlansStand plans

-- a step with the tables of a past that stands for a trace stands for the trace with the step
abbrev pub NowStands : Type 0
NowStands = (past : Past) (trace : List Step) (now : Now) → now.ordered.now ≡ now.events.now
    → GuardsWillHold past now.time now.events.now now.tables.now → PastStands trace past
    → length trace ≡ now.position → last_time trace ≤ now.time
    → IsNowOf now (trace ++ record { time = now.time; events = now.events.now } ∷ [])

-- and so does a step whose events differ in stale names, and in such as no guard looks for, from those by which its
-- tables were made and which are in order
abbrev pub StaleNowStands : Type 0
StaleNowStands = (past : Past) (trace : List Step) (now : Now)
    → HaveSameFreshEvents now.stale.now (guard_names now.tables.now.guards) now.ordered.now now.events.now
    → GuardsWillHold past now.time now.ordered.now now.tables.now → PastStands trace past
    → length trace ≡ now.position → last_time trace ≤ now.time
    → IsNowOf now (trace ++ record { time = now.time; events = now.events.now } ∷ [])

-- a plan that can be asked with all guards can be asked with those that look for no stale name, where its own do not
abbrev pub FreshPlanCanBeAsked : Type 0
FreshPlanCanBeAsked = (now : Now) (plan : Plan) (v : Valuation)
    → ((name : NameId) → Contains now.stale.now name → IgnoresIn name plan)
    → CanAskPlan (map placed_guard now.tables.now.guards) plan v → CanAskPlan (guards_now now) plan v

-- so can an instance
abbrev pub FreshInstanceCanBeAsked : Type 0
FreshInstanceCanBeAsked = (now : Now) (plans : List Plan) (i : Instance)
    → ((name : NameId) → Contains now.stale.now name → (node : Plan) → node_of plans i ≡ Some node
    → IgnoresIn name node)
    → CanAskOf (map placed_guard now.tables.now.guards) plans i → CanAskOf (guards_now now) plans i
