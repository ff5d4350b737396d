-- The guards of a past state, from the guards that it was made for.
use Rattle.std.specs.Prelude.{◌⊎◌, Contains, IsTrue, ℕ, length, ◌≡◌, List, [], ◌∷◌}
use Rattle.enf_formula.specs.machine.FormulaViews.{tree_of}
use Rattle.enf_formula.specs.machine.FormulaShape.{BindsFresh, is_past}
use Rattle.enf_formula.specs.meaning.Satisfaction.{Formula, IsFree}
use Rattle.monitorable_guard.specs.machine.Guards.{BoundFormula}
use Rattle.monitorable_guard.specs.machine.PresentMeaning.{outermost}
use Rattle.past_state.specs.declared.guards.PlacedGuard.{PlacedGuard}

abbrev pub tree_in : BoundFormula → Formula
tree_in g = tree_of g.formula

-- no quantifier in the guard binds a variable in scope
abbrev pub IsFreshGuard : BoundFormula → Type 0
IsFreshGuard g = BindsFresh (tree_in g) (λ x. Contains g.bound x ⊎ IsFree x (tree_in g))

-- the guard does not look ahead
abbrev pub IsPastGuard : BoundFormula → Type 0
IsPastGuard g = IsTrue (is_past (tree_in g))

-- how many outermost operators on the past are in it
abbrev pub count_in : BoundFormula → ℕ
count_in g = length (outermost (tree_in g))

-- the guards have these formulas, as trees, with these bound variables
abbrev pub AreCopies : List BoundFormula → List PlacedGuard → Type 0
AreCopies [] [] = Unit {0}
AreCopies [] (p ∷ placed) = ⊥
AreCopies (g ∷ guards) [] = ⊥
AreCopies (g ∷ guards) (p ∷ placed) = (tree_of p.guard.formula ≡ tree_in g) × (p.guard.bound ≡ g.bound)
    × AreCopies guards placed
