-- That plans hold or fail where none of the events is there that they wait for.
use Rattle.enf_data.specs.declared.steps.Step.{Step}
use Rattle.enf_data.specs.declared.terms.VarId.{VarId}
use Rattle.enf_data.specs.meaning.Data.{step_at}
use Rattle.enf_data.specs.meaning.Valuations.{Valuation}
use Rattle.std.specs.Prelude.{◌≡◌, ℕ, ◌<◌, List, length, Some}
use Rattle.enf_formula.specs.machine.FormulaShape.{AreNewVariables}
use Rattle.enf_formula.specs.meaning.Satisfaction.{Sat}
use Rattle.plan_terms.specs.meaning.Plans.{Plan, TestOr, Guarded, formula_for}
use Rattle.plan_terms.specs.meaning.Scopes.{FitsScope}
use Rattle.plan_terms.specs.machine.WellFormed.{AtEach, GuardBindsFresh}
use Rattle.sleepers.specs.declared.patterns.Pattern.{Pattern}
use Rattle.sleepers.specs.machine.Patterns.{HasNone}
use Rattle.wake_patterns.specs.machine.WakePatterns.{met_by, missed_by}

-- the variables are new that a guard brings and that the quantifiers in a guard or test bind
abbrev pub BringsFresh : Plan → (scope : List VarId) → Type 0
BringsFresh (TestOr node guard test body) scope = GuardBindsFresh (test, scope)
BringsFresh (Guarded node xs guard test body) scope = GuardBindsFresh (test, scope) × AreNewVariables scope xs
BringsFresh plan scope = Unit {0}

-- so it is at each node of a plan, where the valuation binds the variables in scope
pub record BringsFreshUnder (v : Valuation) (plan : Plan) : Type 0 where
  pub scope : List VarId
  pub fresh : AtEach BringsFresh plan scope
  pub fits : FitsScope scope v

-- without an event by which it could be met, a plan's formula fails at a position
abbrev pub UnmetPlansFail : Type 0
UnmetPlansFail = (trace : List Step) (i : ℕ) (v : Valuation) (plan : Plan) (patterns : List Pattern)
    → i < length trace → BringsFreshUnder v plan → met_by v plan ≡ Some patterns
    → HasNone patterns (step_at trace i).events → Sat trace i v (formula_for plan) → ⊥

-- without an event by which it could be missed, a plan's formula holds there
abbrev pub UnmissedPlansHold : Type 0
UnmissedPlansHold = (trace : List Step) (i : ℕ) (v : Valuation) (plan : Plan) (patterns : List Pattern)
    → BringsFreshUnder v plan → missed_by v plan ≡ Some patterns
    → HasNone patterns (step_at trace i).events → Sat trace i v (formula_for plan)
