-- The properties that the plans of a policy and their guards have, whatever rules they were made for.
use Rattle.enf_data.specs.declared.terms.VarId.{VarId}
use Rattle.std.specs.Prelude.{◌≡◌, List, Contains, [], ◌++◌, ℕ, Some, slice_get, IsTrue, ◌⊎◌, ◌≤◌, length, ◌<◌, ◌^◌}
use Rattle.std.specs.Prelude.{sum_by}
use Rattle.enf_formula.specs.machine.FormulaShape.{AreTermsInScope, AreNewVariables, is_past, BindsFresh, formula_size}
use Rattle.monitorable_guard.specs.meaning.Safety.{FreeWithin, IsTest, Safe}
use Rattle.plan_terms.specs.meaning.Plans.{Plan, CausePlan, SuppressPlan, Both, Either, TestOr, Guarded, EventuallyPlan}
use Rattle.plan_terms.specs.meaning.Plans.{AlwaysPlan, UntilPlan, NextPlan, NothingClashes, nodes, node_number}
use Rattle.plan_terms.specs.meaning.Plans.{all_guards}
use Rattle.enf_data.specs.declared.limits.TheConstants.{MOST_NODES, MOST_INTERVAL_END, MOST_RULES}
use Rattle.std.specs.List.{AllByRecursion}
use Rattle.enf_formula.specs.meaning.Satisfaction.{Formula, IsFree}

-- the property holds at each node, of the node and the variables in scope there
abbrev pub AtEach : (Plan → List VarId → Type 0) → Plan → (scope : List VarId) → Type 0
AtEach P (Both node left right) scope = P (Both node left right) scope × AtEach P left scope × AtEach P right scope
AtEach P (Either node left right) scope = P (Either node left right) scope × AtEach P left scope × AtEach P right scope
AtEach P (TestOr node guard test body) scope = P (TestOr node guard test body) scope × AtEach P body scope
AtEach P (Guarded node xs guard test body) scope =
    P (Guarded node xs guard test body) scope × AtEach P body (scope ++ xs)
AtEach P (EventuallyPlan node place low high body) scope =
    P (EventuallyPlan node place low high body) scope × AtEach P body scope
AtEach P (AlwaysPlan node place low high body) scope = P (AlwaysPlan node place low high body) scope
    × AtEach P body scope
AtEach P (UntilPlan node place low high left right) scope =
    P (UntilPlan node place low high left right) scope × AtEach P left scope × AtEach P right scope
AtEach P (NextPlan node place high body) scope = P (NextPlan node place high body) scope × AtEach P body scope
AtEach P plan scope = P plan scope

-- the variables of a leaf are in scope; the variables of a guard are new, and its free variables are in scope or
-- among them; the free variables of a test are in scope
abbrev pub IsScopedNode : Plan → (scope : List VarId) → Type 0
IsScopedNode (CausePlan node place name terms) scope = AreTermsInScope scope terms
IsScopedNode (SuppressPlan node place name terms) scope = AreTermsInScope scope terms
IsScopedNode (Both node left right) scope = Unit {0}
IsScopedNode (Either node left right) scope = Unit {0}
IsScopedNode (TestOr node guard test body) scope = FreeWithin test (Contains scope)
IsScopedNode (Guarded node xs guard test body) scope = AreNewVariables scope xs
    × FreeWithin test (Contains (scope ++ xs))
IsScopedNode (EventuallyPlan node place low high body) scope = Unit {0}
IsScopedNode (AlwaysPlan node place low high body) scope = Unit {0}
IsScopedNode (UntilPlan node place low high left right) scope = Unit {0}
IsScopedNode (NextPlan node place high body) scope = Unit {0}

abbrev pub IsScopedPlan : Plan → (scope : List VarId) → Type 0
IsScopedPlan plan scope = AtEach IsScopedNode plan scope

-- the nodes are numbered in pre-order from 0
abbrev pub IsNumberedPlan : Plan → Type 0
IsNumberedPlan plan = (number : ℕ) (node : Plan) → slice_get (nodes plan) number ≡ Some node → node_number node ≡ number

-- a guard or test stands in the list at its number, with the variables in scope
abbrev pub IsListedNode : List (Formula × List VarId) → Plan → (scope : List VarId) → Type 0
IsListedNode guards (TestOr node guard test body) scope = slice_get guards guard ≡ Some (test, scope)
IsListedNode guards (Guarded node xs guard test body) scope = slice_get guards guard ≡ Some (test, scope)
IsListedNode guards plan scope = Unit {0}

abbrev pub GuardsAreListed : List (Formula × List VarId) → Plan → (scope : List VarId) → Type 0
GuardsAreListed guards plan scope = AtEach (IsListedNode guards) plan scope

-- a guard can be evaluated with the variables in scope, and tells the values of its own variables; a test can be
-- evaluated and binds nothing. Neither looks ahead
abbrev pub IsSafeNode : Plan → (scope : List VarId) → Type 0
IsSafeNode (TestOr node guard test body) scope = IsTest test (Contains scope) × IsTrue (is_past test)
IsSafeNode (Guarded node xs guard test body) scope =
    Safe test (Contains scope) × ((x : VarId) → Contains xs x → IsFree x test) × IsTrue (is_past test)
IsSafeNode plan scope = Unit {0}

abbrev pub GuardsAreSafe : Plan → (scope : List VarId) → Type 0
GuardsAreSafe plan scope = AtEach IsSafeNode plan scope

-- no quantifier in a guard or test binds a variable that is in scope or free in it
abbrev pub GuardBindsFresh : Formula × List VarId → Type 0
GuardBindsFresh guard = BindsFresh guard.0 (λ x. Contains guard.1 x ⊎ IsFree x guard.0)

-- a guard or test does not look ahead
abbrev pub LooksBack : Formula × List VarId → Type 0
LooksBack guard = IsTrue (is_past guard.0)

-- a plan has no more nodes than a rule may have
abbrev pub IsSmallPlan : Plan → Type 0
IsSmallPlan plan = length (nodes plan) ≤ MOST_NODES

-- the first end of an operator's interval is at most the second, which is within the limit
abbrev pub EndsInTime : Plan → Type 0
EndsInTime (CausePlan node place name terms) = Unit {0}
EndsInTime (SuppressPlan node place name terms) = Unit {0}
EndsInTime (Both node left right) = Unit {0}
EndsInTime (Either node left right) = Unit {0}
EndsInTime (TestOr node guard test body) = Unit {0}
EndsInTime (Guarded node xs guard test body) = Unit {0}
EndsInTime (EventuallyPlan node place low high body) = (low ≤ high) × (high ≤ MOST_INTERVAL_END)
EndsInTime (AlwaysPlan node place low high body) = (low ≤ high) × (high ≤ MOST_INTERVAL_END)
EndsInTime (UntilPlan node place low high left right) = (low ≤ high) × (high ≤ MOST_INTERVAL_END)
EndsInTime (NextPlan node place high body) = high ≤ MOST_INTERVAL_END

-- a plan has no more nodes than a rule may have, numbered in pre-order, and no variable is in scope at its root: its
-- variables are in scope where they stand, its guards can be evaluated there, stand in the list at their numbers and
-- look back alone, and the intervals of its nodes end within the limit
pub record IsWellFormed (guards : List (Formula × List VarId)) (plan : Plan) : Type 0 where
  pub small : IsSmallPlan plan
  pub numbered : IsNumberedPlan plan
  pub scoped : IsScopedPlan plan []
  pub safe : GuardsAreSafe plan []
  pub listed : GuardsAreListed guards plan []
  pub ends : AllByRecursion EndsInTime (nodes plan)

-- the plans are no more than a policy may have, each with its guards in the list, which has no others; no name is
-- both caused and suppressed. No quantifier in a guard binds a variable in scope, and the guards have so few nodes
-- that the operators in them can be numbered
pub record AreWellFormed (plans : List Plan) (guards : List (Formula × List VarId)) : Type 0 where
  pub few : length plans ≤ MOST_RULES
  pub each : AllByRecursion (IsWellFormed guards) plans
  pub listed : guards ≡ all_guards plans
  pub roles : NothingClashes plans
  pub fresh : AllByRecursion GuardBindsFresh guards
  pub back : AllByRecursion LooksBack guards
  pub small : sum_by (λ guard. formula_size guard.0) guards < 2 ^ 32
