-- The places of rows, by the values that the rows have of some columns.
use Rattle.enf_data.specs.declared.terms.VarId.{VarId}
use Rattle.enf_data.specs.declared.values.Value.{Value}
use Rattle.std.specs.Map.{lookup}
use Rattle.std.specs.Option.{option_map_or}
use Rattle.std.specs.Prelude.{ℕ, List, [], ◌∷◌, ◌++◌, Option, Some, map, Contains, IfSome, length, slice_get, ◌≡◌}
use Rattle.valuations.specs.machine.Tables.{row_cell}
use Rattle.windows.specs.machine.RowQueries.{cells_eq}

-- by the values of the columns, a bucket of places
pub record PartIndex : Type 0 where
  pub columns : List VarId
  pub buckets : List (List Value × List ℕ)

-- the places in the bucket of these values
abbrev pub bucket_at : List (List Value × List ℕ) → List (Option Value) → List ℕ
bucket_at buckets bounds = option_map_or (λ places. places) (lookup (λ key. cells_eq bounds (map Some key)) buckets) []

-- the values that a row of some columns has of others
abbrev pub part_cells : List VarId → List VarId → List Value → List (Option Value)
part_cells columns among row = map (row_cell among row) columns

-- each place stays in its bucket
abbrev pub KeepBuckets : List (List Value × List ℕ) → List (List Value × List ℕ) → Type 0
KeepBuckets before after = (bounds : List (Option Value)) (place : ℕ) → Contains (bucket_at before bounds) place
    → Contains (bucket_at after bounds) place

-- where these are all values, the place is in their bucket
abbrev pub IsNotedAt : List (List Value × List ℕ) → List (Option Value) → ℕ → Type 0
IsNotedAt buckets bounds place = (key : List Value) → bounds ≡ map Some key
    → Contains (bucket_at buckets bounds) place

-- the columns are among those of the rows, and the place of each row is in the bucket of its values
pub record IsIndexOf (among : List VarId) (rows : List (List Value)) (index : PartIndex) : Type 0 where
  pub within : (x : VarId) → Contains index.columns x → Contains among x
  pub noted : (place : ℕ) (row : List Value) → slice_get rows place ≡ Some row
      → Contains (bucket_at index.buckets (part_cells index.columns among row)) place

-- where there is an index, it is that of all rows but the last, which stands at the place
pub record IsIndexButLast (among : List VarId) (rows : List (List Value)) (place : ℕ) (index : Option PartIndex)
    : Type 0 where
  pub front : List (List Value)
  pub last : List Value
  pub split : rows ≡ front ++ last ∷ []
  pub at : place ≡ length front
  pub fits : length last ≡ length among
  pub indexed : IfSome index (IsIndexOf among front)
