-- Rows that are asked for by columns and a valuation.
use Rattle.enf_data.specs.declared.terms.VarId.{VarId}
use Rattle.enf_data.specs.declared.values.Value.{Value}
use Rattle.enf_data.specs.declared.values.Value.TheVariants.{Num, Text}
use Rattle.enf_data.specs.machine.ValueTests.{value_eq-Decides}
use Rattle.enf_data.specs.meaning.Valuations.{Valuation, value_at}
use Rattle.enf_data.specs.meaning.Values.{value_eq}
use Rattle.std.proofs.Common.{ap, sym, suc, ◌∙◌}
use Rattle.std.proofs.lemmas.Bool.{false≢true}
use Rattle.std.proofs.lemmas.Option.{same_Some, none-some}
use Rattle.std.proofs.lemmas.Slice.Eq.{slice_eq-Decides}
use Rattle.std.specs.Bool.{Decides}
use Rattle.std.specs.Cmp.{IsEquivalence, decided, on_equiv, IsPartialEquivalence, on_per, partial_equiv_from_equiv}
use Rattle.std.specs.Cmp.Lexicographic.{pointwise, lists_equiv}
use Rattle.std.specs.Hash.{HashWrites}
use Rattle.std.specs.List.{flat_map}
use Rattle.std.specs.Prelude.{List, map, Option, Bool, true, false, None, Some, ◌&&◌, [], ◌∷◌, IsTrue}
use Rattle.std.specs.Prelude.{◌≡◌, refl, length, ◌++◌}
use Rattle.windows.specs.declared.surviving_rows.Surviving.{Surviving}
use Rattle.windows.specs.machine.WindowEntries.{RowSurvives}
use Rattle.enf_data.specs.contracts.values.ValueHash.TheImpl as hashed
use Rattle.std.specs.Hash as fed
use Rattle.enf_data.specs.contracts.rows.RowHash.TheImpl as row_hashed
use Rattle.enf_data.specs.contracts.values.ValuePartialEq.TheImpl as values
use Rattle.enf_data.specs.contracts.rows.RowPartialEq.TheImpl as rows

-- the valuation's values of the columns
abbrev pub cells : List VarId → Valuation → List (Option Value)
cells columns v = map (value_at v) columns

-- whether two are equal
abbrev pub cell_eq : Option Value → Option Value → Bool
cell_eq None None = true
cell_eq None (Some y) = false
cell_eq (Some x) None = false
cell_eq (Some x) (Some y) = value_eq x y

abbrev pub cells_eq : List (Option Value) → List (Option Value) → Bool
cells_eq xs ys = pointwise cell_eq xs ys

-- whether a value is that of the cell, where the cell has one
abbrev pub is_cell_as_bound : Option Value → Value → Bool
is_cell_as_bound None value = true
is_cell_as_bound (Some bound) value = value_eq bound value

-- whether each value of a row is so
abbrev pub are_cells_as_bound : List (Option Value) → List Value → Bool
are_cells_as_bound [] row = true
are_cells_as_bound (bound ∷ rest) [] = true
are_cells_as_bound (bound ∷ rest) (value ∷ row) = is_cell_as_bound bound value && are_cells_as_bound rest row

-- the row survives, and its values are so
abbrev pub SurvivesUnder : Surviving → List (Option Value) → List Value → Type 0
SurvivesUnder surviving bounds row = RowSurvives surviving row × IsTrue (are_cells_as_bound bounds row)

-- what is hashed of one
abbrev pub cell_fed : Option Value → HashWrites
cell_fed None = []
cell_fed (Some value) = hashed.hash_input-value.it value

-- ---- the tests tell equality

cell_eq-Decides : (a b : Option Value) → Decides (cell_eq a b) (a ≡ b)
cell_eq-Decides None None = (λ h. refl, λ e. refl)
cell_eq-Decides None (Some y) = (λ h. absurd (false≢true h), λ e. absurd (none-some y e))
cell_eq-Decides (Some x) None = (λ h. absurd (false≢true h), λ e. absurd (none-some x (sym e)))
cell_eq-Decides (Some x) (Some y) =
    (λ h. ap Some ((value_eq-Decides x y).0 h), λ e. (value_eq-Decides x y).1 (same_Some x y e))

pub cells_eq-Decides : (xs ys : List (Option Value)) → Decides (cells_eq xs ys) (xs ≡ ys)
cells_eq-Decides xs ys = slice_eq-Decides cell_eq-Decides xs ys _ refl

cells_equiv : IsEquivalence cells_eq
cells_equiv = lists_equiv (decided cell_eq cell_eq-Decides)

pub cells_eq_equiv : {K : Type 0} (f : K → List (Option Value)) → IsEquivalence (λ a b. cells_eq (f a) (f b))
cells_eq_equiv f = on_equiv f cells_equiv

pub cells_eq_per : {K : Type 0} (f : K → List (Option Value)) → IsPartialEquivalence (λ a b. cells_eq (f a) (f b))
cells_eq_per f = on_per f (partial_equiv_from_equiv cells_equiv)

-- ---- what is equal is hashed alike, and as the row

pub same_fed : (xs ys : List (Option Value)) → IsTrue (cells_eq xs ys)
    → fed.slice cell_fed xs ≡ fed.slice cell_fed ys
same_fed xs ys h = ap (fed.slice cell_fed) ((cells_eq-Decides xs ys).0 h)

as_long : (row : List Value) → length (map Some row) ≡ length row
as_long [] = refl
as_long (value ∷ row) = ap suc (as_long row)

fed_each : (row : List Value) → flat_map cell_fed (map Some row) ≡ flat_map hashed.hash_input-value.it row
fed_each [] = refl
fed_each (value ∷ row) = ap (λ fed_rest. hashed.hash_input-value.it value ++ fed_rest) (fed_each row)

pub fed_as_row : (xs : List (Option Value)) (row : List Value) → IsTrue (cells_eq xs (map Some row))
    → fed.slice cell_fed xs ≡ row_hashed.hash_input-value.it row
fed_as_row xs row h = ap (fed.slice cell_fed) ((cells_eq-Decides xs (map Some row)).0 h)
    ∙ (λ i. fed.usize (as_long row i) ++ fed_each row i)

-- what is equal to a row is equal to the rows that are equal to that row, and to no other

same_test : (x y : Value) → value_eq x y ≡ values.eq-value.it x y
same_test (Num x) (Num y) = refl
same_test (Num x) (Text t) = refl
same_test (Text s) (Num y) = refl
same_test (Text s) (Text t) = refl

rows_eq : (x y : List Value) → cells_eq (map Some x) (map Some y) ≡ rows.eq-value.it x y
rows_eq [] [] = refl
rows_eq [] (b ∷ y) = refl
rows_eq (a ∷ x) [] = refl
rows_eq (a ∷ x) (b ∷ y) = λ i. same_test a b i && rows_eq x y i

pub eq_as_row : (xs : List (Option Value)) (x y : List Value) → IsTrue (cells_eq xs (map Some x))
    → cells_eq xs (map Some y) ≡ rows.eq-value.it x y
eq_as_row xs x y h = ap (λ l. cells_eq l (map Some y)) ((cells_eq-Decides xs (map Some x)).0 h) ∙ rows_eq x y
