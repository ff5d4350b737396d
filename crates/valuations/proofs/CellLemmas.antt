-- The values that rows have for variables, and parts of rows.
use Rattle.valuations.proofs.Vocabulary.{◌≡◌, ℕ, suc, ◌+◌, ◌<◌, Bool, true, false, cond, ⊎_elim, List, [], ◌∷◌, ◌++◌, length, map, get_or, Option, Some, Contains, refl, sym, ap, subst, ◌∙◌, arith}
use Rattle.valuations.proofs.Vocabulary.{take, append_assoc, cons_option, eq-eqb, eqb-true, false≢true, filter_map-append, take_more, HasNoRepeats, VarId, Value, row_key, row_part, ArePlaces}
use Rattle.valuations.proofs.Vocabulary.{row_cell}
use Rattle.std.proofs.Common.{◌==◌}
use Rattle.std.specs.List.{slice_get}
pub use Rattle.enf_data.proofs.Lists.{here, later, first_or_later, none_in_nil, there_from_get, Contains-filter, Contains-from_filter, HasNoRepeats-filter, Contains-append, HasNoRepeats-append}
pub use Rattle.enf_data.proofs.Lists.{same_at, same_lists_at}
pub use Rattle.valuations.proofs.ColumnLaws.{same_variable, is_among-Decides, among_or_not, shared_in, in_shared, not_shared_in, in_not_shared}
pub use Rattle.valuations.proofs.RowLaws.{cell_here, cell_later, cell_at, cell_some, cell_front, cell_back, same_row}

-- ---- places

head_is : {A : Type 0} (x y : A) (xs ys : List A) → x ∷ xs ≡ y ∷ ys → (x ≡ y) × (xs ≡ ys)
head_is x y xs ys e = (ap (λ l. get_or l 0 x) e, ap (λ l. Rattle.std.proofs.Common.drop 1 l) e)

pub key_cells : (columns wanted : List VarId) (places : List ℕ) (row : List Value) → ArePlaces columns wanted places → HasNoRepeats columns → length row ≡ length columns
    → row_key row places ≡ map (row_cell columns row) wanted
key_cells columns [] [] row are distinct long = refl
key_cells columns [] (place ∷ places) row are distinct long = absurd (omega (arith, ap length are))
key_cells columns (x ∷ wanted) [] row are distinct long = absurd (omega (arith, ap length are))
key_cells columns (x ∷ wanted) (place ∷ places) row are distinct long =
    let parts = head_is _ _ _ _ are in
    λ i. cell_at columns row place x distinct long parts.0 i ∷ key_cells columns wanted places row parts.1 distinct long i

-- a part of a row: as long as the wanted variables, with the row's values of them
pub record IsPart (columns wanted : List VarId) (row piece : List Value) : Type 0 where
  pub long : length piece ≡ length wanted
  pub cells : (x : VarId) → Contains wanted x → row_cell wanted piece x ≡ row_cell columns row x

pub part_cells : (columns wanted : List VarId) (places : List ℕ) (row : List Value) → ArePlaces columns wanted places → HasNoRepeats columns → length row ≡ length columns
    → IsPart columns wanted row (row_part row places)
part_cells columns [] [] row are distinct long = record { long = refl; cells = λ x there. absurd (none_in_nil x there) }
part_cells columns [] (place ∷ places) row are distinct long = absurd (omega (arith, ap length are))
part_cells columns (y ∷ wanted) [] row are distinct long = absurd (omega (arith, ap length are))
part_cells columns (y ∷ wanted) (place ∷ places) row are distinct long =
    let parts = head_is _ _ _ _ are in
    let rest = part_cells columns wanted places row parts.1 distinct long in
    let some = cell_some columns row y long (there_from_get columns place y parts.0) in
    let got : slice_get row place ≡ Some some.0 = cell_at columns row place y distinct long parts.0 ∙ some.1 in
    subst (IsPart columns (y ∷ wanted) row) (ap (λ o. Rattle.std.specs.List.cons_option o (row_part row places)) (sym got)) (record {
      long = ap suc rest.long;
      cells = λ x there. by x (y.0 == x.0) refl some.0 some.1 rest.cells there;
    })
  where
    by : (x : VarId) (b : Bool) → (y.0 == x.0) ≡ b → (value : Value) → row_cell columns row y ≡ Some value
        → ((z : VarId) → Contains wanted z → row_cell wanted (row_part row places) z ≡ row_cell columns row z) → Contains (y ∷ wanted) x
        → cond b (Some value) (row_cell wanted (row_part row places) x) ≡ row_cell columns row x
    by x true e value is rest there = sym is ∙ ap (row_cell columns row) (same_variable y x (eqb-true y.0 x.0 e))
    by x false e value is rest there = rest x (⊎_elim (λ same. absurd (false≢true (sym e ∙ eq-eqb y.0 x.0 (ap (λ z. z.0) same)))) (λ behind. behind) (first_or_later x y wanted there))

-- one place more
pub part_more : (row : List Value) (places : List ℕ) (i : ℕ) → i < length places → row_part row (take (i + 1) places)
    ≡ row_part row (take i places) ++ cons_option (slice_get row (get_or places i 0)) []
part_more row places i within = ap (row_part row) (take_more places i 0 within) ∙ filter_map-append (slice_get row) (take i places) (get_or places i 0 ∷ [])

pub part_grows : (row : List Value) (places : List ℕ) (i : ℕ) (start before after : List Value) (got : Option Value) → i < length places → got ≡ slice_get row (get_or places i 0)
    → before ≡ start ++ row_part row (take i places) → after ≡ before ++ cons_option got [] → after ≡ start ++ row_part row (take (i + 1) places)
part_grows row places i start before after got within is reached grown =
    grown ∙ ap (λ l. l ++ cons_option got []) reached ∙ append_assoc start (row_part row (take i places)) (cons_option got []) ∙ ap
    (λ o. start ++ (row_part row (take i places) ++ cons_option o [])) is ∙ ap (λ l. start ++ l) (sym (part_more row places i within))
