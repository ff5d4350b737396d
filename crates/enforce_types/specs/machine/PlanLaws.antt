-- What plans mean, what their guards and numbers are, and that each formula has one answer.
use Rattle.enf_data.specs.declared.events.NameId.{NameId}
use Rattle.enf_data.specs.declared.terms.VarId.{VarId}
use Rattle.std.specs.List.{flat_map}
use Rattle.std.specs.Prelude.{Bool, List, Ok, ◌≡◌, IsTrue, Contains, ℕ, Some, slice_get, ◌≤◌}
use Rattle.enf_formula.specs.machine.Laws.{AreEquivalent}
use Rattle.enf_formula.specs.machine.FormulaShape.{is_past, formula_size}
use Rattle.enf_formula.specs.meaning.Satisfaction.{Formula, Not, formula_place}
use Rattle.monitorable_guard.specs.meaning.Safety.{Safe}
use Rattle.plan_terms.specs.machine.WellFormed.{IsNumberedPlan, GuardsAreSafe}
use Rattle.plan_terms.specs.meaning.Plans.{formula_for, Plan}
use Rattle.enforce_types.specs.meaning.Elab.{Answer, Elab, Up, Down, Aim, renumber, guard_numbers, renumber_all}
use Rattle.enforce_types.specs.meaning.Elab.{node_count, guard_count}

-- where a formula that is to be made true has a plan, the plan's formula holds at every position of every trace under
-- every valuation exactly where the formula does
abbrev pub UpKeepsMeaning : Type 0
UpKeepsMeaning = (causable suppressible : NameId → Bool) (f : Formula) (scope : List VarId) (plan : Plan)
    → Elab causable suppressible Up f scope (Ok plan) → AreEquivalent (formula_for plan) f

-- where a formula that is to be made false has a plan, the plan's formula holds exactly where the formula does not
abbrev pub DownKeepsMeaning : Type 0
DownKeepsMeaning = (causable suppressible : NameId → Bool) (f : Formula) (scope : List VarId) (plan : Plan)
    → Elab causable suppressible Down f scope (Ok plan) → AreEquivalent (formula_for plan) (Not (formula_place f) f)

-- this is an answer, and there is no other
pub record IsOnlyAnswer (IsAnswer : Answer → Type 0) (answer : Answer) : Type 0 where
  pub holds : IsAnswer answer
  pub only : (other : Answer) → IsAnswer other → other ≡ answer

-- each formula has exactly one answer
abbrev pub FormulaHasOneAnswer : Type 0
FormulaHasOneAnswer = (causable suppressible : NameId → Bool) (aim : Aim) (f : Formula) (scope : List VarId)
    → (answer : Answer) × IsOnlyAnswer (Elab causable suppressible aim f scope) answer

-- guards and tests look back alone and can be evaluated with the variables that are in scope where they stand
abbrev pub PlansHaveSafeGuards : Type 0
PlansHaveSafeGuards = (causable suppressible : NameId → Bool) (aim : Aim) (f : Formula) (scope : List VarId)
    (plan : Plan) → Elab causable suppressible aim f scope (Ok plan) → GuardsAreSafe plan scope

-- a formula that can be evaluated looks back alone
abbrev pub SafeLooksBack : Type 0
SafeLooksBack = (f : Formula) (bound : List VarId) → Safe f (Contains bound) → IsTrue (is_past f)

-- the number of a node is its place in pre-order
abbrev pub NodesAreNumbered : Type 0
NodesAreNumbered = (plan : Plan) (guard : ℕ) → IsNumberedPlan (renumber 0 guard plan)

-- the number of a guard or test is its place over the plans
abbrev pub GuardsAreNumbered : Type 0
GuardsAreNumbered = (plans : List Plan) (place number : ℕ)
    → slice_get (flat_map guard_numbers (renumber_all 0 plans)) place ≡ Some number → number ≡ place

-- numbers have no part in what a plan means, nor in which of its guards can be evaluated
abbrev pub NumbersMeanNothing : Type 0
NumbersMeanNothing = (plan : Plan) (node guard : ℕ) → formula_for (renumber node guard plan) ≡ formula_for plan

abbrev pub NumberingKeepsSafe : Type 0
NumberingKeepsSafe = (plan : Plan) (node guard : ℕ) (scope : List VarId)
    → GuardsAreSafe plan scope → GuardsAreSafe (renumber node guard plan) scope

-- a plan has at most as many nodes as the formula, and each guard or test is at one of them
abbrev pub PlansAreSmall : Type 0
PlansAreSmall = (causable suppressible : NameId → Bool) (f : Formula) (scope : List VarId) (plan : Plan)
    → Elab causable suppressible Up f scope (Ok plan)
    → (node_count plan ≤ formula_size f) × (guard_count plan ≤ node_count plan)
