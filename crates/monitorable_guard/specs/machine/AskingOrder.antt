-- The conjuncts of a formula of the program, which are put in the order in which they are asked.
use Rattle.enf_formula.specs.machine.FormulaViews.{tree_of}
use Rattle.enf_formula.specs.machine.FormulaShape.{formula_size}
use Rattle.std.specs.List.{sum_by}
use Rattle.std.specs.Prelude.{ℕ, List, map}
use Rattle.monitorable_guard.specs.declared.order.Conjunct.{Conjunct}
use Rattle.monitorable_guard.specs.machine.Reordering.{PlacedFormula}

-- the conjunct's formula, at its place
abbrev pub placed_conjunct : Conjunct → PlacedFormula
placed_conjunct conjunct = record { formula = tree_of conjunct.formula.now; first = conjunct.first }

abbrev pub placed_conjuncts : List Conjunct → List PlacedFormula
placed_conjuncts conjuncts = map placed_conjunct conjuncts

-- how many nodes formulas have together
abbrev pub total_size : List PlacedFormula → ℕ
total_size ps = sum_by (λ p. formula_size p.formula) ps
