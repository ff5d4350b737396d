-- The guards of the program as formulas, and properties of them.
use Rattle.enf_data.specs.declared.terms.VarId.{VarId}
use Rattle.std.specs.Prelude.{List, map, Contains, []}
use Rattle.enf_formula.specs.machine.FormulaViews.{tree_of}
use Rattle.enf_formula.specs.meaning.Satisfaction.{Formula}
use Rattle.monitorable_guard.specs.machine.Guards.{BoundFormula}
use Rattle.monitorable_guard.specs.meaning.Safety.{Safe}
use Rattle.plan_terms.specs.meaning.Plans.{Plan, TestOr, Guarded}
use Rattle.plan_terms.specs.machine.WellFormed.{LooksBack}

-- a guard of the program, as its formula with the variables that are bound
abbrev pub guard_of : BoundFormula → Formula × List VarId
guard_of guard = (tree_of guard.formula, guard.bound)

abbrev pub guards_of : List BoundFormula → List (Formula × List VarId)
guards_of guards = map guard_of guards

-- the property holds of the guard or test of a node, with the variables in scope
abbrev pub OfGuard : (Formula × List VarId → Type 0) → Plan → (scope : List VarId) → Type 0
OfGuard P (TestOr node guard test body) scope = P (test, scope)
OfGuard P (Guarded node xs guard test body) scope = P (test, scope)
OfGuard P plan scope = Unit {0}

-- it can be evaluated with the variables in scope
abbrev pub CanBeEvaluated : Formula × List VarId → Type 0
CanBeEvaluated guard = Safe guard.0 (Contains guard.1)

-- the guard or test of a node does not look ahead
abbrev pub GuardLooksBack : Plan → Type 0
GuardLooksBack node = OfGuard LooksBack node []
