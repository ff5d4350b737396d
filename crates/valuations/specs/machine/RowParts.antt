-- The values of a row at some places.
use Rattle.enf_data.specs.declared.terms.VarId.{VarId}
use Rattle.enf_data.specs.declared.values.Value.{Value}
use Rattle.enf_data.specs.meaning.Values.{value_cmp}
use Rattle.std.specs.Borrow.{Bor}
use Rattle.std.specs.Cmp.Lexicographic.{slice_cmp}
use Rattle.std.specs.List.{filter_map}
use Rattle.std.specs.List.Sorted.{IsSortedByKey}
use Rattle.std.specs.Option.{option_cmp}
use Rattle.std.specs.Prelude.{ℕ, List, map, slice_get, Option, ◌≡◌, Some, ◌++◌, Contains}
use Rattle.std.specs.declared.cmp.Ordering.{Ordering}

-- the values at the places, none where the row is shorter
abbrev pub row_key : List Value → List ℕ → List (Option Value)
row_key row places = map (slice_get row) places

-- the values at the places
abbrev pub row_part : List Value → List ℕ → List Value
row_part row places = filter_map (slice_get row) places

-- lexicographic, a value that is lacking first
abbrev pub key_cmp : List (Option Value) → List (Option Value) → Ordering
key_cmp a b = slice_cmp (option_cmp value_cmp) a b

-- the places at which the wanted variables stand among the columns
abbrev pub ArePlaces : List VarId → List VarId → List ℕ → Type 0
ArePlaces columns wanted places = map (slice_get columns) places ≡ map Some wanted

-- the rows after references
abbrev pub shown_rows : List (Bor (List Value)) → List (List Value)
shown_rows rows = map (λ row. row.now) rows

-- the rows do not fall by their values at the places
abbrev pub IsInKeyOrder : List ℕ → List (Bor (List Value)) → Type 0
IsInKeyOrder places rows = IsSortedByKey (λ row. row_key row.now places) key_cmp rows

-- each row of the one joined with each row of the other that has at the right places what it has at the left ones
pub record AreJoinedRows (left right rest : List ℕ) (rows others out : List (List Value)) : Type 0 where
  pub sound : (row : List Value) → Contains out row
      → (a b : List Value) × Contains rows a × Contains others b × (row_key b right ≡ row_key a left)
      × (row ≡ a ++ row_part b rest)
  pub complete : (a b : List Value) → Contains rows a → Contains others b → row_key b right ≡ row_key a left
      → Contains out (a ++ row_part b rest)

-- the rows of the one for which no row of the other has at the right places what they have at the left ones
pub record AreSingleRows (left right : List ℕ) (rows others out : List (List Value)) : Type 0 where
  pub sound : (row : List Value) → Contains out row → Contains rows row × ((other : List Value)
      → Contains others other → row_key other right ≡ row_key row left → ⊥)
  pub complete : (row : List Value) → Contains rows row → ((other : List Value) → Contains others other
      → row_key other right ≡ row_key row left → ⊥) → Contains out row
