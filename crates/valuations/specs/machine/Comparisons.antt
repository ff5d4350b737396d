-- Comparisons of terms over the columns of a table, and what a valuation binds of a row.
use Rattle.enf_data.specs.declared.terms.Term.{Term}
use Rattle.enf_data.specs.declared.terms.Term.TheVariants.{Var, Const}
use Rattle.enf_data.specs.declared.terms.VarId.{VarId}
use Rattle.enf_data.specs.declared.values.Value.{Value}
use Rattle.enf_data.specs.declared.values.Value.TheVariants.{Num}
use Rattle.enf_data.specs.meaning.Values.{value_cmp}
use Rattle.std.specs.Ordering.{int_cmp, is_lt, is_le, is_eq}
use Rattle.std.specs.Prelude.{◌≡◌, ◌<ℤ◌, ◌≤ℤ◌, Option, Some, Bool, false, true, None, ◌&&◌}
use Rattle.std.specs.Prelude.{List, [], ◌∷◌, Contains, slice_get}
use Rattle.valuations.specs.declared.comparing.Compare.{Compare}
use Rattle.valuations.specs.declared.comparing.Compare.TheVariants.{Equal, Less, AtMost}
use Rattle.valuations.specs.declared.comparing.Operand.{Operand}
use Rattle.valuations.specs.declared.comparing.Operand.TheVariants.{Cell, Fixed, Nowhere}

-- both values are there, and are the same, or numbers in this order
abbrev pub ComparesValues : Compare → Option Value → Option Value → Type 0
ComparesValues Equal (Some a) (Some b) = a ≡ b
ComparesValues Less (Some (Num x)) (Some (Num y)) = x <ℤ y
ComparesValues AtMost (Some (Num x)) (Some (Num y)) = x ≤ℤ y
ComparesValues kind a b = ⊥

-- whether they do
abbrev pub compares_values : Compare → Option Value → Option Value → Bool
compares_values Equal (Some a) (Some b) = is_eq (value_cmp a b)
compares_values Less (Some (Num x)) (Some (Num y)) = is_lt (int_cmp x y)
compares_values AtMost (Some (Num x)) (Some (Num y)) = is_le (int_cmp x y)
compares_values kind a b = false

-- whether a value is the bound one, where one is bound
abbrev pub is_bound_value : Option Value → Value → Bool
is_bound_value None value = true
is_bound_value (Some bound) value = is_eq (value_cmp bound value)

-- whether each value is the bound one of its column, where one is bound
abbrev pub is_row_as_bound : List (Option Value) → List Value → Bool
is_row_as_bound [] row = true
is_row_as_bound (bound ∷ rest) [] = true
is_row_as_bound (bound ∷ rest) (value ∷ row) = is_bound_value bound value && is_row_as_bound rest row

-- a term's variable is a column
abbrev pub IsColumnOf : List VarId → Term → Type 0
IsColumnOf columns (Var x) = Contains columns x
IsColumnOf columns (Const value) = Unit {0}

-- the value of an operand for a row
abbrev pub operand_value : Operand → List Value → Option Value
operand_value (Cell place) row = slice_get row place
operand_value (Fixed value) row = Some value.now
operand_value Nowhere row = None

-- the operand stands for the term: a variable's column, or the constant; nothing for a variable that is no column
abbrev pub ReadsTerm : List VarId → Term → Operand → Type 0
ReadsTerm columns (Var x) (Cell place) = slice_get columns place ≡ Some x
ReadsTerm columns (Var x) (Fixed value) = ⊥
ReadsTerm columns (Var x) Nowhere = Contains columns x → ⊥
ReadsTerm columns (Const value) (Cell place) = ⊥
ReadsTerm columns (Const value) (Fixed held) = held.now ≡ value
ReadsTerm columns (Const value) Nowhere = ⊥
