-- What it takes to ask a plan or an instance at a step: guards in the tables, and variables in scope.
use Rattle.enf_data.specs.declared.terms.VarId.{VarId}
use Rattle.enf_data.specs.meaning.Valuations.{Valuation, no_values}
use Rattle.std.specs.List.{AllByRecursion}
use Rattle.std.specs.Prelude.{◌≡◌, ℕ, List, Some, slice_get, Contains, true}
use Rattle.enf_formula.specs.machine.FormulaShape.{AreTermsInScope, AreNewVariables}
use Rattle.enf_formula.specs.meaning.Satisfaction.{Formula}
use Rattle.monitorable_guard.specs.machine.Evaluation.{AreOpen}
use Rattle.monitorable_guard.specs.meaning.Safety.{Safe, FreeWithin}
use Rattle.plan_terms.specs.meaning.Plans.{is_future, nodes, Plan, CausePlan, SuppressPlan, Both, Either, TestOr}
use Rattle.plan_terms.specs.meaning.Plans.{Guarded, EventuallyPlan, AlwaysPlan, UntilPlan, NextPlan}
use Rattle.plan_terms.specs.machine.WellFormed.{AtEach, GuardBindsFresh, EndsInTime}
use Rattle.plan_terms.specs.meaning.Scopes.{FitsScope}
use Rattle.obligations.specs.declared.instances.Instance.{Instance}
use Rattle.obligations.specs.meaning.Pending.{node_of}

-- ---- plans that can be asked

-- a guard or test stands in the list at its number with the variables in scope, and can be evaluated with these
pub record IsGuardAt (guards : List (Formula × List VarId)) (number : ℕ) (test : Formula)
    (scope : List VarId) : Type 0 where
  pub listed : slice_get guards number ≡ Some (test, scope)
  pub safe : Safe test (Contains scope)
  pub fresh : GuardBindsFresh (test, scope)

-- the variables of a leaf are in scope; a test's are in scope; a guard's are in scope or those that it brings, which
-- are new and in order
abbrev pub CanAskNode : List (Formula × List VarId) → Plan → (scope : List VarId) → Type 0
CanAskNode guards (CausePlan node place name terms) scope = AreTermsInScope scope terms
CanAskNode guards (SuppressPlan node place name terms) scope = AreTermsInScope scope terms
CanAskNode guards (Both node left right) scope = Unit {0}
CanAskNode guards (Either node left right) scope = Unit {0}
CanAskNode guards (TestOr node guard test body) scope =
    IsGuardAt guards guard test scope × FreeWithin test (Contains scope)
CanAskNode guards (Guarded node xs guard test body) scope =
    IsGuardAt guards guard test scope × AreOpen test scope xs × AreNewVariables scope xs
CanAskNode guards (EventuallyPlan node place low high body) scope = Unit {0}
CanAskNode guards (AlwaysPlan node place low high body) scope = Unit {0}
CanAskNode guards (UntilPlan node place low high left right) scope = Unit {0}
CanAskNode guards (NextPlan node place high body) scope = Unit {0}

abbrev pub CanAskIn : List (Formula × List VarId) → Plan → (scope : List VarId) → Type 0
CanAskIn guards plan scope = AtEach (CanAskNode guards) plan scope

-- the plan can be asked at a step with these guards, under a valuation that binds the variables in scope
pub record CanAskPlan (guards : List (Formula × List VarId)) (plan : Plan) (v : Valuation) : Type 0 where
  pub scope : List VarId
  pub can : CanAskIn guards plan scope
  pub fits : FitsScope scope v

-- the instance is of an operator on the future of one of the plans, which can be asked at a step with these guards
-- under the instance's valuation, and whose windows end in time
pub record CanAskOf (guards : List (Formula × List VarId)) (plans : List Plan) (i : Instance) : Type 0 where
  pub node : Plan
  pub found : node_of plans i ≡ Some node
  pub future : is_future node ≡ true
  pub can : CanAskPlan guards node i.valuation
  pub ends : AllByRecursion EndsInTime (nodes node)

-- each of the plans can be asked at a step with these guards, where nothing is bound, and its windows end in time
abbrev pub CanAskRoot : List (Formula × List VarId) → Plan → Type 0
CanAskRoot guards plan = CanAskPlan guards plan no_values × AllByRecursion EndsInTime (nodes plan)

abbrev pub CanAskRoots : List (Formula × List VarId) → List Plan → Type 0
CanAskRoots guards plans = AllByRecursion (CanAskRoot guards) plans
