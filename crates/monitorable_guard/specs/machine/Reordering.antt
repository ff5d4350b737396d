-- Formulas whose conjuncts stand in another order, over tables that stand in that order.
use Rattle.enf_data.specs.declared.events.Event.{Event}
use Rattle.enf_data.specs.declared.terms.VarId.{VarId}
use Rattle.enf_data.specs.meaning.Valuations.{Valuation}
use Rattle.std.specs.Prelude.{ℕ, List, [], ◌∷◌, ◌++◌, ◌+◌, ◌<◌, ◌≡◌, ◌↔◌}
use Rattle.std.specs.Prelude.{length, map, get_or, drop, Contains}
use Rattle.enf_formula.specs.machine.FormulaShape.{BindsFresh}
use Rattle.enf_formula.specs.meaning.Satisfaction.{Formula, And, IsFree}
use Rattle.valuations.specs.machine.Tables.{Relation}
use Rattle.monitorable_guard.specs.machine.Evaluation.{FitOperators}
use Rattle.monitorable_guard.specs.machine.PresentMeaning.{outermost, HoldsNow}
use Rattle.monitorable_guard.specs.meaning.Safety.{Safe, BoundOrFreeIn}

-- no columns and no rows
abbrev pub no_table : Relation
no_table = record { columns = []; rows = [] }

-- the tables at these places
abbrev pub renumbered : List ℕ → List Relation → List Relation
renumbered numbers tables = map (λ n. get_or tables n no_table) numbers

-- a formula, and how many tables stand before those of its outermost operators on the past
pub record PlacedFormula : Type 0 where
  pub formula : Formula
  pub first : ℕ

-- all of them are so, and one of them is
abbrev pub EachPlaced : List PlacedFormula → (PlacedFormula → Type 0) → Type 0
EachPlaced ps P = (p : PlacedFormula) → Contains ps p → P p

abbrev pub SomePlaced : List PlacedFormula → (PlacedFormula → Type 0) → Type 0
SomePlaced ps P = (p : PlacedFormula) × Contains ps p × P p

-- a formula alone
abbrev pub only_formula : ℕ → Formula → List PlacedFormula
only_formula first f = record { formula = f; first = first } ∷ []

-- its conjuncts, in order
abbrev pub conjuncts_from : ℕ → Formula → List PlacedFormula
conjuncts_from first (And place g h) = conjuncts_from first g ++ conjuncts_from (first + length (outermost g)) h
conjuncts_from first f = only_formula first f

-- each can be evaluated where the free variables of those before it are bound too
abbrev pub AreSafeInTurn : (VarId → Type 0) → List PlacedFormula → Type 0
AreSafeInTurn B [] = Unit {0}
AreSafeInTurn B (p ∷ ps) = Safe p.formula B × AreSafeInTurn (BoundOrFreeIn B p.formula) ps

-- each over its own tables, all of them are what the formula is over the tables at the places that its outermost
-- operators on the past have among all: those from there on, of which it needs no more
pub record IsReordered (ps : List PlacedFormula) (asked : Formula) (numbers : List ℕ) : Type 0 where
  pub counted : length numbers ≡ length (outermost asked)
  pub within : (n : ℕ) → Contains numbers n → SomePlaced ps (λ p. n < p.first + length (outermost p.formula))
  pub fresh : (scope : List VarId) → EachPlaced ps (λ p. BindsFresh p.formula (Contains scope))
      → BindsFresh asked (Contains scope)
  pub free : (x : VarId) → IsFree x asked ↔ SomePlaced ps (λ p. IsFree x p.formula)
  pub fits : (tables : List Relation) → EachPlaced ps (λ p. FitOperators (outermost p.formula) (drop p.first tables))
      → FitOperators (outermost asked) (renumbered numbers tables)
  pub means : (events : List Event) (tables rest : List Relation) (v : Valuation)
      → HoldsNow events (renumbered numbers tables ++ rest) v asked
      ↔ EachPlaced ps (λ p. HoldsNow events (drop p.first tables) v p.formula)
