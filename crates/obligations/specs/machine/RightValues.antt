-- Which values variables can have in what is pending, where guards give right ones.
use Rattle.enf_data.specs.declared.steps.Step.{Step}
use Rattle.enf_data.specs.declared.terms.VarId.{VarId}
use Rattle.enf_data.specs.declared.values.Value.{Value}
use Rattle.enf_data.specs.meaning.Valuations.{Valuation, value_at, with_values, values_of_terms}
use Rattle.std.specs.Prelude.{◌≡◌, Bool, List, Contains, IsTrue, Some, ℕ, suc, ◌<◌, ◌++◌, length, take}
use Rattle.std.specs.Prelude.{[], slice_get}
use Rattle.plan_terms.specs.meaning.Plans.{Plan, Guarded}
use Rattle.plan_terms.specs.machine.WellFormed.{AtEach}
use Rattle.plan_terms.specs.meaning.Scopes.{scoped_nodes}
use Rattle.obligations.specs.declared.literals.Literal.{Literal}
use Rattle.obligations.specs.machine.Leaves.{IsLeaf, terms_of}
use Rattle.obligations.specs.meaning.Obligations.{HoldsLast}

-- the values of these variables are right
abbrev pub AreRight : (right : VarId → Value → Bool) → List VarId → Valuation → Type 0
AreRight right xs v =
    (x : VarId) (value : Value) → Contains xs x → value_at v x ≡ Some value → IsTrue (right x value)

-- where the values in scope are right, a guard gives right ones at each position of the trace
abbrev pub GivesRight : List Step → (right : VarId → Value → Bool) → Plan → (scope : List VarId) → Type 0
GivesRight trace right (Guarded node xs guard test body) scope =
    (steps : ℕ) (v : Valuation) (row : List Value) → steps < length trace → length row ≡ length xs
    → AreRight right scope v → HoldsLast (take (suc steps) trace) (with_values xs row v) test
    → AreRight right (scope ++ xs) (with_values xs row v)
GivesRight trace right node scope = Unit {0}

-- the guards of each rule give right values, where the values in scope are right
abbrev pub GuardsGiveRight : List Plan → List Step → (right : (rule : ℕ) → VarId → Value → Bool) → Type 0
GuardsGiveRight plans trace right = (rule : ℕ) (plan : Plan) → slice_get plans rule ≡ Some plan
    → AtEach (GivesRight trace (right rule)) plan []

-- the literal is that of a leaf, whose terms have its arguments as their values where the variables in scope there have
-- right ones
pub record IsRightLiteral (right : VarId → Value → Bool) (plan : Plan) (scope : List VarId) (literal : Literal)
    : Type 0 where
  pub leaf : Plan
  pub scope_there : List VarId
  pub there : Contains (scoped_nodes plan scope) (leaf, scope_there)
  pub is : IsLeaf leaf literal.kind literal.leaf literal.event
  pub valuation : Valuation
  pub values : AreRight right scope_there valuation
  pub args : values_of_terms valuation (terms_of leaf) ≡ Some literal.event.args

-- a literal that is missed of the root of a rule has right values
pub record IsRightIn (plans : List Plan) (rule : ℕ) (right : VarId → Value → Bool) (literal : Literal)
    : Type 0 where
  pub plan : Plan
  pub of_rule : slice_get plans rule ≡ Some plan
  pub is : IsRightLiteral right plan [] literal
