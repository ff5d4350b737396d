-- What a guard is made of, and when a formula is refused as one.
use Rattle.enf_data.specs.declared.terms.VarId.{VarId}
use Rattle.enf_data.specs.machine.Codes.{variable_code}
use Rattle.std.specs.Coded.{Coded, coded_list, coded×, code_by}
use Rattle.std.specs.Prelude.{List, refl, ◌≡◌, Contains}
use Rattle.enf_formula.specs.declared.formulas.Formula.{Formula}
use Rattle.enf_formula.specs.meaning.Satisfaction.{Formula as FormulaTree, formula_place}
use Rattle.monitorable_guard.specs.declared.guard.GuardRefusal.{GuardRefusal}
use Rattle.monitorable_guard.specs.declared.guard.GuardRefusal.TheVariants.{Unguarded, NoMemory}
use Rattle.monitorable_guard.specs.meaning.Safety.{Safe}
use Rattle.enf_formula.specs.contracts.formulas.Formula as stored

-- a formula with the variables that are bound
pub record BoundFormula : Type 0 where
  pub formula : Formula
  pub bound : List VarId

-- stored as the pair of both
abbrev pub bound_formula_code : Coded BoundFormula
bound_formula_code =
    code_by (Formula × List VarId) (coded× stored.the_row.coded (coded_list variable_code))
    (λ g. (g.formula, g.bound)) (λ p. record { formula = p.0; bound = p.1 }) (λ _. refl)

-- a formula that is not safe, at its place; running out of memory refuses any
abbrev pub RefusesGuard : FormulaTree → List VarId → GuardRefusal → Type 0
RefusesGuard f bound (Unguarded place) = (place ≡ formula_place f) × (Safe f (Contains bound) → ⊥)
RefusesGuard f bound NoMemory = Unit {0}
