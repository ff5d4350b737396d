-- Laws of rows: what a row has for a variable, and the valuations that have the values of a row.
use Rattle.valuations.proofs.Vocabulary.{there_from_get, first_or_later, none_in_nil, later, here, variable_cmp_total, VarId, Value, HasNoRepeats, Valuation, value_at, with_values, no_values}
use Rattle.valuations.proofs.Vocabulary.{valuation_of, ap, sym, subst, ◌∙◌, arith, ⊎_elim, refl, eq-eqb, ne_eqb, false≢true, All-contains, same_Some, none-some, unsigned_tied, slice_get, ◌==◌}
use Rattle.valuations.proofs.Vocabulary.{row_cell, AgreesWithRow, Relation, IsTable, HasValuation}
use Rattle.std.specs.Prelude.{◌≡◌, List, ◌∷◌, Some, ℕ, zero, suc, [], length, Contains, Bool, true, false, cond, ◌++◌}
use Rattle.valuations.proofs.ColumnLaws.{same_variable}
use Rattle.std.specs.FinMap as finite

-- ---- cells

pub cell_here : (column x : VarId) (columns : List VarId) (value : Value) (row : List Value) → column ≡ x
    → row_cell (column ∷ columns) (value ∷ row) x ≡ Some value
cell_here column x columns value row same = rw (eq-eqb column.0 x.0 (ap (λ y. y.0) same))

pub cell_later : (column x : VarId) (columns : List VarId) (value : Value) (row : List Value) → (column ≡ x → ⊥)
    → row_cell (column ∷ columns) (value ∷ row) x ≡ row_cell columns row x
cell_later column x columns value row other = rw (ne_eqb column.0 x.0 (λ same. other (same_variable column x same)))

-- the value at a column's place is its variable's
pub cell_at : (columns : List VarId) (row : List Value) (place : ℕ) (x : VarId) → HasNoRepeats columns
    → length row ≡ length columns → slice_get columns place ≡ Some x
    → slice_get row place ≡ row_cell columns row x
cell_at [] row place x distinct long e = absurd (none-some x e)
cell_at (column ∷ columns) [] place x distinct long e = absurd (omega (arith, long))
cell_at (column ∷ columns) (value ∷ row) zero x distinct long e =
    sym (cell_here column x columns value row (same_Some column x e))
cell_at (column ∷ columns) (value ∷ row) (suc place) x distinct long e =
    cell_at columns row place x distinct.1 (omega (arith, long)) e
    ∙ sym (cell_later column x columns value row (λ same. distinct.0 (subst (Contains columns) (sym same)
    (there_from_get columns place x e))))

-- where a column is, a row as long as the columns has a value
pub cell_some : (columns : List VarId) (row : List Value) (x : VarId) → length row ≡ length columns
    → Contains columns x → (value : Value) × (row_cell columns row x ≡ Some value)
cell_some [] row x long there = absurd (none_in_nil x there)
cell_some (column ∷ columns) [] x long there = absurd (omega (arith, long))
cell_some (column ∷ columns) (value ∷ row) x long there =
    by (column.0 == x.0) refl (λ other. cell_some columns row x (omega (arith, long)) other)
  where
    behind : (column.0 == x.0) ≡ false → Contains columns x
    behind e = ⊎_elim (λ same. absurd (false≢true (sym e
        ∙ eq-eqb column.0 x.0 (ap (λ y. y.0) same)))) (λ k. k) (first_or_later x column columns there)

    by : (b : Bool) → (column.0 == x.0) ≡ b → (Contains columns x
        → (value : Value) × (row_cell columns row x ≡ Some value))
        → (v : Value) × (cond b (Some value) (row_cell columns row x) ≡ Some v)
    by true e rest = (value, refl)
    by false e rest = rest (behind e)

pub cell_front : (columns more : List VarId) (row rest : List Value) (x : VarId) → length row ≡ length columns
    → Contains columns x → row_cell (columns ++ more) (row ++ rest) x ≡ row_cell columns row x
cell_front [] more row rest x long there = absurd (none_in_nil x there)
cell_front (column ∷ columns) more [] rest x long there = absurd (omega (arith, long))
cell_front (column ∷ columns) more (value ∷ row) rest x long there =
    ⊎_elim
    (λ same. cell_here column x (columns ++ more) value (row ++ rest) same
    ∙ sym (cell_here column x columns value row same))
    (λ behind. ap (cond (column.0 == x.0) (Some value)) (cell_front columns more row rest x (omega (
      arith,
      long,
    )) behind))
    (first_or_later x column columns there)

pub cell_back : (columns more : List VarId) (row rest : List Value) (x : VarId) → length row ≡ length columns
    → (Contains columns x → ⊥) → row_cell (columns ++ more) (row ++ rest) x ≡ row_cell more rest x
cell_back [] more [] rest x long absent = refl
cell_back [] more (value ∷ row) rest x long absent = absurd (omega (arith, long))
cell_back (column ∷ columns) more [] rest x long absent = absurd (omega (arith, long))
cell_back (column ∷ columns) more (value ∷ row) rest x long absent =
    cell_later column x (columns ++ more) value (row ++ rest) (λ same. absent (0, omega arith, same))
    ∙ cell_back columns more row rest x (omega (arith, long)) (λ there. absent (later x column columns there))

-- two rows with the same values are the same row
pub same_row : (columns : List VarId) (a b : List Value) → HasNoRepeats columns → length a ≡ length columns
    → length b ≡ length columns
    → ((x : VarId) → Contains columns x → row_cell columns a x ≡ row_cell columns b x) → a ≡ b
same_row [] [] [] distinct long_a long_b same = refl
same_row [] (value ∷ a) b distinct long_a long_b same = absurd (omega (arith, long_a))
same_row [] [] (value ∷ b) distinct long_a long_b same = absurd (omega (arith, long_b))
same_row (column ∷ columns) [] b distinct long_a long_b same = absurd (omega (arith, long_a))
same_row (column ∷ columns) (s ∷ a) [] distinct long_a long_b same = absurd (omega (arith, long_b))
same_row (column ∷ columns) (s ∷ a) (t ∷ b) distinct long_a long_b same =
    let first : s ≡ t = same_Some s t (sym (cell_here column column columns s a refl)
    ∙ same column (here column columns) ∙ cell_here column column columns t b refl) in
    let rest : a ≡ b = same_row columns a b distinct.1 (omega (arith, long_a)) (omega (arith, long_b)) (λ x there.
    let apart : column ≡ x → ⊥ = λ e. distinct.0 (subst (Contains columns) (sym e) there) in
    sym (cell_later column x columns s a apart) ∙ same x (later x column columns there)
    ∙ cell_later column x columns t b apart) in
    λ i. first i ∷ rest i

-- ---- rows as valuations

pub value_at-bound : (v : Valuation) (x y : VarId) (value : Value) → x ≡ y
    → value_at (finite.insert v x value) y ≡ Some value
value_at-bound v x y value same = finite.get-insert variable_cmp_total v x value y
    ∙ ap (λ b. cond b (Some value) (value_at v y)) (unsigned_tied y.0 x.0
    ∙ eq-eqb y.0 x.0 (ap (λ z. z.0) (sym same)))

pub value_at-other : (v : Valuation) (x y : VarId) (value : Value) → (x ≡ y → ⊥)
    → value_at (finite.insert v x value) y ≡ value_at v y
value_at-other v x y value other = finite.get-insert variable_cmp_total v x value y
    ∙ ap (λ b. cond b (Some value) (value_at v y)) (unsigned_tied y.0 x.0
    ∙ ne_eqb y.0 x.0 (λ e. other (same_variable x y (sym e))))

pub value_at-with_outside : (columns : List VarId) (row : List Value) (v : Valuation) (x : VarId)
    → (Contains columns x → ⊥) → value_at (with_values columns row v) x ≡ value_at v x
value_at-with_outside [] row v x absent = refl
value_at-with_outside (column ∷ columns) [] v x absent = refl
value_at-with_outside (column ∷ columns) (value ∷ row) v x absent =
    value_at-with_outside columns row (finite.insert v column value) x (λ there. absent
    (later x column columns there)) ∙ value_at-other v column x value (λ same. absent (0, omega arith, same))

pub value_at-with_inside : (columns : List VarId) (row : List Value) (v : Valuation) (x : VarId)
    → HasNoRepeats columns → length row ≡ length columns → Contains columns x
    → value_at (with_values columns row v) x ≡ row_cell columns row x
value_at-with_inside [] row v x distinct long there = absurd (none_in_nil x there)
value_at-with_inside (column ∷ columns) [] v x distinct long there = absurd (omega (arith, long))
value_at-with_inside (column ∷ columns) (value ∷ row) v x distinct long there =
    ⊎_elim
    (λ same. value_at-with_outside columns row (finite.insert v column value) x (λ again. distinct.0 (subst
    (Contains columns) (sym same) again)) ∙ value_at-bound v column x value same
    ∙ sym (cell_here column x columns value row same))
    (λ behind. value_at-with_inside columns row (finite.insert v column value) x distinct.1 (omega (
      arith,
      long,
    )) behind ∙ sym (cell_later column x columns value row (λ same. distinct.0 (subst (Contains columns)
    (sym same) behind))))
    (first_or_later x column columns there)

-- a row's valuation has its values
pub agrees_itself : (columns : List VarId) (row : List Value) → HasNoRepeats columns
    → length row ≡ length columns → AgreesWithRow (valuation_of columns row) columns row
agrees_itself columns row distinct long x there = value_at-with_inside columns row no_values x distinct long there

-- a valuation has the values of one row of distinct columns at most
pub agrees_once : (v : Valuation) (columns : List VarId) (a b : List Value) → HasNoRepeats columns
    → length a ≡ length columns → length b ≡ length columns → AgreesWithRow v columns a
    → AgreesWithRow v columns b → a ≡ b
agrees_once v columns a b distinct long_a long_b with_a with_b =
    same_row columns a b distinct long_a long_b (λ x there. sym (with_a x there) ∙ with_b x there)

pub table_row-length : (t : Relation) (row : List Value) → IsTable t → Contains t.rows row → length row
    ≡ length t.columns
table_row-length t row table there = All-contains (λ r. length r ≡ length t.columns) t.rows row table.fits there

pub contains_valuation : (t : Relation) (row : List Value) → IsTable t → Contains t.rows row
    → HasValuation t (valuation_of t.columns row)
contains_valuation t row table there =
    (row, there, agrees_itself t.columns row table.distinct (table_row-length t row table there))

pub contains_from_valuation : (t : Relation) (row : List Value) → IsTable t → length row ≡ length t.columns
    → HasValuation t (valuation_of t.columns row) → Contains t.rows row
contains_from_valuation t row table long has =
    subst (Contains t.rows) (agrees_once (valuation_of t.columns row) t.columns has.0 row table.distinct
    (table_row-length t has.0 table has.1) long has.2 (agrees_itself t.columns row table.distinct long)) has.1
