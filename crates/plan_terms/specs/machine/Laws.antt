-- Laws of plans: of numbers, scopes, columns and triggers, and that what is lost or owed stays so.
use Rattle.enf_data.specs.declared.events.Event.{Event}
use Rattle.enf_data.specs.declared.events.NameId.{NameId}
use Rattle.enf_data.specs.declared.steps.Step.{Step}
use Rattle.enf_data.specs.declared.terms.VarId.{VarId}
use Rattle.enf_data.specs.meaning.Data.{step_at}
use Rattle.enf_data.specs.meaning.Valuations.{Valuation, variable_cmp}
use Rattle.std.specs.List.{find, AllByRecursion}
use Rattle.std.specs.List.Sorted.{IsStrictlySortedBy}
use Rattle.std.specs.Option.{option_map}
use Rattle.std.specs.Prelude.{◌≡◌, ℕ, List, ◌≤◌, ◌++◌, All, slice_get, ◌+◌, ◌<◌, length, Some}
use Rattle.std.specs.Prelude.{map, Contains}
use Rattle.enf_formula.specs.meaning.Satisfaction.{Formula, IsFree, Sat, Classically}
use Rattle.monitorable_guard.specs.machine.Evaluation.{AreOpen}
use Rattle.plan_terms.specs.machine.GuardProperties.{GuardLooksBack}
use Rattle.plan_terms.specs.machine.NamedNodes.{StandsIn}
use Rattle.plan_terms.specs.meaning.Plans.{nodes, has_number, node_in, formula_for, Plan, Guarded, triggers}
use Rattle.plan_terms.specs.machine.WellFormed.{IsNumberedPlan, IsSafeNode, GuardsAreSafe, GuardsAreListed, EndsInTime}
use Rattle.plan_terms.specs.machine.WellFormed.{IsWellFormed, IsScopedNode, IsScopedPlan}
use Rattle.plan_terms.specs.meaning.Owed.{IsLost, Obligation, LeadsThrough, IsOwed, obligation}
use Rattle.plan_terms.specs.meaning.Scopes.{scoped_nodes, scoped_at}

-- where the variables of a guard are new in scope, and it can be evaluated with those in scope and tells the values of
-- its own, the free ones that are not in scope are just its own, in the order in which they are written
abbrev pub ColumnsAreVariables : Type 0
ColumnsAreVariables = (node guard : ℕ) (xs : List VarId) (test : Formula) (body : Plan) (scope columns : List VarId)
    → IsScopedNode (Guarded node xs guard test body) scope → IsSafeNode (Guarded node xs guard test body) scope
    → AreOpen test scope columns → columns ≡ xs

-- what is lost stays lost at a later clock, and after steps that are not before the clock
abbrev pub LostStaysLost : Type 0
LostStaysLost = (trace more : List Step) (clock later : ℕ) (node : Plan) (v : Valuation) (position : ℕ)
    → All (λ step. clock ≤ step.time) more → clock ≤ later → IsLost trace clock node v position
    → IsLost (trace ++ more) later node v position

-- in a plan whose nodes are numbered, the node with a number is the one at that place in pre-order
abbrev pub NumberIsPlace : Type 0
NumberIsPlace = (plan : Plan) (number : ℕ) → IsNumberedPlan plan
    → find (has_number number) (nodes plan) ≡ slice_get (nodes plan) number

-- ---- laws

-- what led from one to another still does at a later clock, and after steps that are not before the clock, where the
-- guards and tests look back alone
abbrev pub LeadsOn : Type 0
LeadsOn = (trace more : List Step) (clock later : ℕ) (from : Obligation) (moves : List Obligation) (to : Obligation)
    → AllByRecursion GuardLooksBack (nodes from.node) → from.position < length trace
    → All (λ step. clock ≤ step.time) more → clock ≤ later → LeadsThrough trace clock from moves to
    → LeadsThrough (trace ++ more) later from moves to

-- what is owed stays owed on each longer trace
abbrev pub OwedStaysOwed : Type 0
OwedStaysOwed = (plans : List Plan) (trace more : List Step) (clock later rule : ℕ) (node : Plan) (v : Valuation)
    (position : ℕ)
    → ((root : Plan) → slice_get plans rule ≡ Some root → AllByRecursion GuardLooksBack (nodes root))
    → All (λ step. clock ≤ step.time) more → clock ≤ later → IsOwed plans trace clock rule node v position
    → IsOwed plans (trace ++ more) later rule node v position

-- what something that is owed leads to is owed too
abbrev pub OwedLeadsOn : Type 0
OwedLeadsOn = (plans : List Plan) (trace : List Step) (clock rule : ℕ) (node : Plan) (v : Valuation) (position : ℕ)
    (moves : List Obligation) (to : Obligation) → IsOwed plans trace clock rule node v position
    → LeadsThrough trace clock (obligation node v position) moves to
    → IsOwed plans trace clock rule to.node to.valuation to.position

-- ---- the variables in scope

-- the nodes with their variables are the nodes
abbrev pub NodesHaveScopes : Type 0
NodesHaveScopes = (plan : Plan) (scope : List VarId) → map (λ node. node.0) (scoped_nodes plan scope) ≡ nodes plan

-- the node that is found is the first with the number
abbrev pub FoundIsFirst : Type 0
FoundIsFirst = (plan : Plan) (scope : List VarId) (number : ℕ)
    → option_map (λ node. node.0) (scoped_at number plan scope) ≡ find (has_number number) (nodes plan)

-- the variables in scope at a node begin with those at the root, and rise where those do
abbrev pub FoundBeginsWithScope : Type 0
FoundBeginsWithScope = (plan node : Plan) (scope inner : List VarId) (number : ℕ)
    → scoped_at number plan scope ≡ Some (node, inner) → (more : List VarId) × (inner ≡ scope ++ more)

abbrev pub FoundHasRisingScope : Type 0
FoundHasRisingScope = (plan node : Plan) (scope inner : List VarId) (number : ℕ)
    → scoped_at number plan scope ≡ Some (node, inner) → IsScopedPlan plan scope
    → IsStrictlySortedBy variable_cmp scope → IsStrictlySortedBy variable_cmp inner

-- the node that is found inherits what is asked of the plan
abbrev pub FoundIsScoped : Type 0
FoundIsScoped = (plan node : Plan) (scope inner : List VarId) (number : ℕ)
    → scoped_at number plan scope ≡ Some (node, inner) → IsScopedPlan plan scope → IsScopedPlan node inner

abbrev pub FoundHasSafeGuards : Type 0
FoundHasSafeGuards = (plan node : Plan) (scope inner : List VarId) (number : ℕ)
    → scoped_at number plan scope ≡ Some (node, inner) → GuardsAreSafe plan scope → GuardsAreSafe node inner

abbrev pub FoundHasListedGuards : Type 0
FoundHasListedGuards = (guards : List (Formula × List VarId)) (plan node : Plan) (scope inner : List VarId)
    (number : ℕ) → scoped_at number plan scope ≡ Some (node, inner) → GuardsAreListed guards plan scope
    → GuardsAreListed guards node inner

abbrev pub FoundEndsInTime : Type 0
FoundEndsInTime = (plan node : Plan) (scope inner : List VarId) (number : ℕ)
    → scoped_at number plan scope ≡ Some (node, inner) → AllByRecursion EndsInTime (nodes plan)
    → AllByRecursion EndsInTime (nodes node)

-- what is free in a plan's formula is in scope at its root
abbrev pub FreeIsInScope : Type 0
FreeIsInScope = (plan : Plan) (scope : List VarId) (x : VarId) → IsScopedPlan plan scope
    → IsFree x (formula_for plan) → Contains scope x

-- each node of a well-formed plan stands in it
abbrev pub NodesStandIn : Type 0
NodesStandIn = (guards : List (Formula × List VarId)) (plans : List Plan) (rule : ℕ) (plan node : Plan)
    → AllByRecursion (IsWellFormed guards) plans → slice_get plans rule ≡ Some plan → Contains (nodes plan) node
    → StandsIn plans rule node

-- a well-formed plan stands in itself
abbrev pub PlansStandIn : Type 0
PlansStandIn = (guards : List (Formula × List VarId)) (plans : List Plan) (rule : ℕ) (plan : Plan)
    → AllByRecursion (IsWellFormed guards) plans → slice_get plans rule ≡ Some plan → StandsIn plans rule plan

-- the node that is found by a number stands in its plan
abbrev pub FoundStandIn : Type 0
FoundStandIn = (guards : List (Formula × List VarId)) (plans : List Plan) (rule number : ℕ) (node : Plan)
    → AllByRecursion (IsWellFormed guards) plans → node_in plans rule number ≡ Some node
    → StandsIn plans rule node

-- where a formula with triggers holds, the step has an event of one of them
abbrev pub TriggersAreMet : Type 0
TriggersAreMet = (trace : List Step) (i : ℕ) (v : Valuation) (f : Formula) (names : List NameId)
    → triggers f ≡ Some names → Sat trace i v f
    → Classically ((event : Event) × Contains (step_at trace i).events event × Contains names event.name)
