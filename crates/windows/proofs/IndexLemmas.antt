-- Buckets of places.
use Rattle.windows.proofs.Vocabulary.{◌≡◌, ◌∙◌, ◌⊎◌, inl, inr, ⊎_elim, ℕ, zero, suc, Bool, true, false, List, [], ◌∷◌, ◌++◌, length, map, take, Contains, Option, None, Some, refl, sym, ap, subst}
use Rattle.windows.proofs.Vocabulary.{arith, none_in_nil, later, get_or, ◌<◌, ◌+◌, same_Some, none-some, position, slice_get, cond, keys_of, lookup, values_of, set_value_at, option_map_or, VarId}
use Rattle.windows.proofs.Vocabulary.{Value, cells, cells_eq, cells_eq-Decides, row_cell, value_at, cell_some, here, first_or_later, Contains-append_cases, HashMap, insert_entry, append-nil}
use Rattle.windows.proofs.Vocabulary.{append_assoc, length-append, Contains-append_right as there_right, ◌↔◌, Contains-append_left, Contains-push, GivesRow, Interval, IsSomeIn, there_from_get, IsTrue}
use Rattle.windows.proofs.Vocabulary.{◌&&◌, false≢true, is_some, value_eq-Decides, All, All-contains, are_cells_as_bound, is_cell_as_bound, only_item, Valuation, cases_lt, Contains-get_or, ◌≤◌}
use Rattle.std.specs.Option.{option_map}
use Rattle.std.proofs.lemmas.Bool.{eq-eqb, eqb-true}
use Rattle.enf_data.specs.meaning.Valuations.{no_values, BindsColumns, variable_cmp}
use Rattle.std.specs.FinMap.{get-empty}
use Rattle.valuations.proofs.ColumnLaws.{same_variable}
use Rattle.windows.specs.machine.WindowEntries.{GivesRowAt, rows_of}
use Rattle.valuations.specs.machine.Bindings.{filled_from_row}
use Rattle.valuations.proofs.ScopeLaws.{filled_unbound}
use Rattle.indexmap.proofs.MapLemmas.{Found-position}
use Rattle.windows.proofs.EntryLemmas.{grown_by, next_of, set_keys}
use Rattle.std.proofs.lemmas.List.{map-append, get_or_default}
use Rattle.windows.specs.machine.RowQueries.{eq_as_row}
use Rattle.enf_data.specs.contracts.rows.RowPartialEq.TheImpl as rows
use Rattle.std.specs.Prelude.{IfNone, ◌==◌}
use Rattle.std.proofs.lemmas.List.{length-map}
use Rattle.std.proofs.lemmas.Option.{slice_get-map}
use Rattle.std.specs.Prelude.{IfSome}
use Rattle.windows.specs.machine.RowIndexes.{IsIndexButLast, IsIndexOf, KeepBuckets, PartIndex, bucket_at, part_cells}

module _ (test : List Value → Bool) where
  abbrev bucket : List (List Value × List ℕ) → List ℕ
  bucket es = option_map_or (λ places. places) (lookup test es) []

  -- a bucket with more places
  pub set_bucket : (es : List (List Value × List ℕ)) (at : ℕ) (old new : List ℕ) → slice_get (values_of es) at ≡ Some old
      → ((place : ℕ) → Contains old place → Contains new place) → (place : ℕ) → Contains (bucket es) place → Contains (bucket (set_value_at es at new)) place
  set_bucket [] at old new value keeps place there = absurd (none_in_nil place there)
  set_bucket (e ∷ es) zero old new value keeps place there =
      (elim (test e.0) as (λ b. Contains (option_map_or (λ places. places) (cond b (Some e.1) (lookup test es)) []) place
      → Contains (option_map_or (λ places. places) (cond b (Some new) (lookup test es)) []) place) [
        | true ↦ λ h. keeps place (subst (λ l. Contains l place) (same_Some e.1 old value) h)
        | false ↦ λ h. h
      ]) there
  set_bucket (e ∷ es) (suc at) old new value keeps place there =
      (elim (test e.0) as (λ b. Contains (option_map_or (λ places. places) (cond b (Some e.1) (lookup test es)) []) place
      → Contains (option_map_or (λ places. places) (cond b (Some e.1) (lookup test (set_value_at es at new))) []) place) [
        | true ↦ λ h. h
        | false ↦ λ h. set_bucket es at old new value keeps place h
      ]) there

  value_set : (es : List (List Value × List ℕ)) (at : ℕ) (old new : List ℕ) → slice_get (values_of es) at ≡ Some old → slice_get (values_of (set_value_at es at new)) at ≡ Some new
  value_set [] at old new value = absurd (none-some old value)
  value_set (e ∷ es) zero old new value = refl
  value_set (e ∷ es) (suc at) old new value = value_set es at old new value

  pub set_first : (es : List (List Value × List ℕ)) (at : ℕ) (old new : List ℕ) → position test (keys_of es) ≡ Some at → slice_get (values_of es) at ≡ Some old
      → bucket (set_value_at es at new) ≡ new
  set_first es at old new found value =
      ap (λ o. option_map_or (λ places. places) o [])
      ((Found-position test (set_value_at es at new) at (ap (position test) (set_keys es at new) ∙ found)).value ∙ value_set es at old new value)

  -- one bucket more
  pub more_buckets : (es rest : List (List Value × List ℕ)) (place : ℕ) → Contains (bucket es) place → Contains (bucket (es ++ rest)) place
  more_buckets [] rest place there = absurd (none_in_nil place there)
  more_buckets (e ∷ es) rest place there =
      (elim (test e.0) as (λ b. Contains (option_map_or (λ places. places) (cond b (Some e.1) (lookup test es)) []) place
      → Contains (option_map_or (λ places. places) (cond b (Some e.1) (lookup test (es ++ rest))) []) place) [
        | true ↦ λ h. h
        | false ↦ λ h. more_buckets es rest place h
      ]) there

  pub new_bucket : (es : List (List Value × List ℕ)) (key : List Value) (new : List ℕ) → lookup test es ≡ None → test key ≡ true → bucket (es ++ (key, new) ∷ []) ≡ new
  new_bucket [] key new none passes = ap (λ b. option_map_or (λ places. places) (cond b (Some new) None) []) passes
  new_bucket (e ∷ es) key new none passes = by (test e.0) refl none (λ rest. new_bucket es key new rest passes)
    where
      by : (b : Bool) → test e.0 ≡ b → cond b (Some e.1) (lookup test es) ≡ None → (lookup test es ≡ None → bucket (es ++ (key, new) ∷ []) ≡ new)
          → bucket ((e ∷ es) ++ (key, new) ∷ []) ≡ new
      by true is found behind = absurd (none-some e.1 (sym found))
      by false is rest behind = ap (λ b. option_map_or (λ places. places) (cond b (Some e.1) (lookup test (es ++ (key, new) ∷ []))) []) is ∙ behind rest

-- ---- a bucket for values that have none

pub if_none : {X : Type 0} (o : Option X) (P : Type 0) → ((x : X) → o ≡ Some x → ⊥) → IfNone o P → P
if_none None P not_some none = none
if_none (Some x) P not_some none = absurd (not_some x refl)

lookup_same : (p q : List Value → Bool) → ((k : List Value) → p k ≡ q k) → (es : List (List Value × List ℕ)) → lookup p es ≡ lookup q es
lookup_same p q same [] = refl
lookup_same p q same (e ∷ es) = λ i. cond (same e.0 i) (Some e.1) (lookup_same p q same es i)

module _ {S : Type 0} (m : HashMap (List Value) (List ℕ) S) (bounds : List (Option Value)) (part : List Value) (new : List ℕ) (after : List (List Value × List ℕ)) (place : ℕ)
    (none : lookup (λ key. cells_eq bounds (map Some key)) m.entries ≡ None) (whole : bounds ≡ map Some part) (put : after ≡ insert_entry rows.eq-value.it m.entries part new) where
  passes : cells_eq bounds (map Some part) ≡ true
  passes = (cells_eq-Decides bounds (map Some part)).1 whole

  grown : after ≡ m.entries ++ (part, new) ∷ []
  grown = grown_by m part part new after
      (sym (lookup_same (λ key. cells_eq bounds (map Some key)) (rows.eq-value.it part) (λ k. eq_as_row bounds part k passes) m.entries) ∙ none) refl put

  pub new_keeps : KeepBuckets m.entries after
  new_keeps other at there =
      subst (λ es. Contains (bucket_at es other) at) (sym grown) (more_buckets (λ key. cells_eq other (map Some key)) m.entries ((part, new) ∷ []) at there)

  pub new_noted : new ≡ place ∷ [] → Contains (bucket_at after bounds) place
  new_noted alone = subst (λ es. Contains (bucket_at es bounds) place) (sym grown)
      (subst (λ l. Contains l place) (sym (new_bucket (λ key. cells_eq bounds (map Some key)) m.entries part new none passes ∙ alone)) (here place []))

-- ---- the values of a row

-- those that a frame over nothing has
pub frame_cells : (columns among : List VarId) (row : List Value) → cells columns (filled_from_row no_values among row) ≡ part_cells columns among row
frame_cells [] among row = refl
frame_cells (x ∷ columns) among row = λ i. filled_unbound no_values among row x (get-empty variable_cmp x) i ∷ frame_cells columns among row i

-- of one column that is bound
cell_as_bound : (among : List VarId) (row : List Value) (v : Valuation) (x : VarId) → length row ≡ length among → Contains among x → is_some (value_at v x) ≡ true
    → IsTrue (are_cells_as_bound (cells among v) row) → row_cell among row x ≡ value_at v x
cell_as_bound [] row v x long there some agrees = absurd (none_in_nil x there)
cell_as_bound (column ∷ among) [] v x long there some agrees = absurd (omega (arith, long))
cell_as_bound (column ∷ among) (value ∷ row) v x long there some agrees =
    let both = split_and (is_cell_as_bound (value_at v column) value) (are_cells_as_bound (cells among v) row) agrees in
    by (column.0 == x.0) refl both.0 (λ other. cell_as_bound among row v x (omega (arith, long)) other some both.1)
  where
    split_and : (a b : Bool) → IsTrue (a && b) → IsTrue a × IsTrue b
    split_and true b h = (refl, h)
    split_and false b h = absurd (false≢true h)

    is_bound : (bound : Option Value) → is_some bound ≡ true → IsTrue (is_cell_as_bound bound value) → Some value ≡ bound
    is_bound None known passes = absurd (false≢true known)
    is_bound (Some b) known passes = ap Some (sym ((value_eq-Decides b value).0 passes))

    behind : (column.0 == x.0) ≡ false → Contains among x
    behind e = ⊎_elim (λ same. absurd (false≢true (sym e ∙ eq-eqb column.0 x.0 (ap (λ y. y.0) same)))) (λ rest. rest) (first_or_later x column among there)

    by : (b : Bool) → (column.0 == x.0) ≡ b → IsTrue (is_cell_as_bound (value_at v column) value) → (Contains among x → row_cell among row x ≡ value_at v x)
        → cond b (Some value) (row_cell among row x) ≡ value_at v x
    by true e passes rest = is_bound (value_at v x) some (subst (λ y. IsTrue (is_cell_as_bound (value_at v y) value)) (same_variable column x (eqb-true column.0 x.0 e)) passes)
    by false e passes rest = rest (behind e)

-- are all there
pub whole_part : (columns among : List VarId) (row : List Value) → ((x : VarId) → Contains columns x → Contains among x) → length row ≡ length among
    → (key : List Value) × (part_cells columns among row ≡ map Some key)
whole_part [] among row within long = ([], refl)
whole_part (x ∷ columns) among row within long =
    let first = cell_some among row x long (within x (here x columns)) in
    let rest = whole_part columns among row (λ y there. within y (later y x columns there)) long in
    (first.0 ∷ rest.0, λ i. first.1 i ∷ rest.1 i)

-- where they are bound, a row that agrees has those
part_as_bound : (columns among : List VarId) (row : List Value) (v : Valuation) → ((x : VarId) → Contains columns x → Contains among x) → length row ≡ length among
    → BindsColumns v columns → IsTrue (are_cells_as_bound (cells among v) row) → part_cells columns among row ≡ cells columns v
part_as_bound [] among row v within long binds agrees = refl
part_as_bound (x ∷ columns) among row v within long binds agrees = λ i.
    cell_as_bound among row v x long (within x (here x columns)) (binds x (here x columns)) agrees i
    ∷ part_as_bound columns among row v (λ y there. within y (later y x columns there)) long (λ y there. binds y (later y x columns there)) agrees i

-- ---- the entries of an index, one after another

pub no_places : (among : List VarId) (index : PartIndex) → ((x : VarId) → Contains index.columns x → Contains among x) → IsIndexOf among [] index
no_places among index within = record {
  within = within;
  noted = λ place row at. absurd (none-some row at);
}

at_append : {X : Type 0} (xs : List X) (x y : X) (i : ℕ) → slice_get (xs ++ x ∷ []) i ≡ Some y → (slice_get xs i ≡ Some y) ⊎ ((i ≡ length xs) × (x ≡ y))
at_append [] x y zero at = inr (refl, same_Some x y at)
at_append [] x y (suc i) at = absurd (none-some y at)
at_append (z ∷ xs) x y zero at = inl at
at_append (z ∷ xs) x y (suc i) at = ⊎_elim (λ before. inl before) (λ last. inr (ap suc last.0, last.1)) (at_append xs x y i at)

pub noted_one : (among : List VarId) (done : List (List Value)) (row : List Value) (place : ℕ) (before after : PartIndex) → place ≡ length done → after.columns ≡ before.columns
    → KeepBuckets before.buckets after.buckets → Contains (bucket_at after.buckets (part_cells after.columns among row)) place
    → IsIndexOf among done before → IsIndexOf among (done ++ row ∷ []) after
noted_one among done row place before after last same keeps there is = record {
  within = λ x has. is.within x (subst (λ l. Contains l x) same has);
  noted = λ other r at. ⊎_elim
      (λ earlier. subst (λ l. Contains (bucket_at after.buckets (part_cells l among r)) other) (sym same)
      (keeps (part_cells before.columns among r) other (is.noted other r earlier)))
      (λ new. subst (λ n. Contains (bucket_at after.buckets (part_cells after.columns among r)) n) (last ∙ sym new.0)
      (subst (λ q. Contains (bucket_at after.buckets (part_cells after.columns among q)) place) new.1 there))
      (at_append done row r other at);
}

-- how far the rows are noted
pub record NotesUpTo (among columns : List VarId) (rows left : List (List Value)) (place : ℕ) (index : PartIndex) : Type 0 where
  pub done : List (List Value)
  pub split : done ++ left ≡ rows
  pub place_is : place ≡ length done
  pub columns_are : index.columns ≡ columns
  pub indexed : IsIndexOf among done index

pub notes_next : (among columns : List VarId) (rows left next : List (List Value)) (row : List Value) (place : ℕ) (before after : PartIndex) → left ≡ row ∷ next
    → after.columns ≡ before.columns → KeepBuckets before.buckets after.buckets → Contains (bucket_at after.buckets (part_cells after.columns among row)) place
    → NotesUpTo among columns rows left place before → NotesUpTo among columns rows next (place + 1) after
notes_next among columns rows left next row place before after is same keeps there notes = record {
  done = notes.done ++ row ∷ [];
  split = append_assoc notes.done (row ∷ []) next ∙ ap (λ l. notes.done ++ l) (sym is) ∙ notes.split;
  place_is = omega (arith, notes.place_is, length-append notes.done (row ∷ []));
  columns_are = same ∙ notes.columns_are;
  indexed = noted_one among notes.done row place before after notes.place_is same keeps there notes.indexed;
}

-- the next is one of the rows, and there is one place more
pub next_row : (among columns : List VarId) (rows left next : List (List Value)) (row : List Value) (place : ℕ) (index : PartIndex) → left ≡ row ∷ next
    → NotesUpTo among columns rows left place index → Contains rows row × (place < length rows)
next_row among columns rows left next row place index is notes = (
  subst (λ l. Contains l row) (ap (λ l. notes.done ++ l) (sym is) ∙ notes.split) (there_right notes.done (row ∷ next) row (here row next)),
  omega (arith, notes.place_is, length-append notes.done left, ap length notes.split, ap length is),
)

pub notes_all : (among columns : List VarId) (rows left : List (List Value)) (place : ℕ) (index : PartIndex) → length left ≡ 0 → NotesUpTo among columns rows left place index → IsIndexOf among rows index
notes_all among columns rows [] place index none notes = subst (λ l. IsIndexOf among l index) (sym (append-nil notes.done) ∙ notes.split) notes.indexed
notes_all among columns rows (row ∷ left) place index none notes = absurd (omega (arith, none))

-- where nothing is noted for good
pub noted_no_more : (among : List VarId) (done : List (List Value)) (before after : PartIndex) → after.columns ≡ before.columns
    → KeepBuckets before.buckets after.buckets → IsIndexOf among done before → IsIndexOf among done after
noted_no_more among done before after same keeps is = record {
  within = λ x has. is.within x (subst (λ l. Contains l x) same has);
  noted = λ other r at. subst (λ l. Contains (bucket_at after.buckets (part_cells l among r)) other) (sym same)
      (keeps (part_cells before.columns among r) other (is.noted other r at));
}

-- ---- rows that are given, by their places

row_at : (entries : List (List Value × List ℕ)) (place : ℕ) (e : List Value × List ℕ) → slice_get entries place ≡ Some e → slice_get (rows_of entries) place ≡ Some e.0
row_at [] place e at = absurd (none-some e at)
row_at (x ∷ entries) zero e at = ap (λ y. Some y.0) (same_Some x e at)
row_at (x ∷ entries) (suc place) e at = row_at entries place e at

-- where its columns are bound, an index has the place of each row that agrees
pub has_place : (among : List VarId) (entries : List (List Value × List ℕ)) (index : PartIndex) (v : Valuation) → IsIndexOf among (rows_of entries) index
    → All (λ e. length e.0 ≡ length among) entries → BindsColumns v index.columns → (place : ℕ) (row : List Value) (times : List ℕ) → slice_get entries place ≡ Some (row, times)
    → IsTrue (are_cells_as_bound (cells among v) row) → Contains (bucket_at index.buckets (cells index.columns v)) place
has_place among entries index v is fit binds place row times at agrees =
    let long : length row ≡ length among = All-contains (λ e. length e.0 ≡ length among) entries (row, times) fit (there_from_get entries place (row, times) at) in
    subst (λ b. Contains (bucket_at index.buckets b) place) (part_as_bound index.columns among row v is.within long binds agrees) (is.noted place row (row_at entries place (row, times) at))

abbrev pub GivenAt : Interval → ℕ → (List Value → Type 0) → List (List Value × List ℕ) → List ℕ → List Value → Type 0
GivenAt interval now S entries places row = (place : ℕ) × Contains places place × GivesRowAt interval now S entries place row

place_of_entry : (entries : List (List Value × List ℕ)) (e : List Value × List ℕ) → Contains entries e → (place : ℕ) × (slice_get entries place ≡ Some e)
place_of_entry [] e there = absurd (none_in_nil e there)
place_of_entry (x ∷ entries) e there = ⊎_elim (λ same. (0, ap Some same)) (λ behind. let at = place_of_entry entries e behind in (suc at.0, at.1)) (first_or_later e x entries there)

-- all of them, where the places have each that the test lets through
given_at_all : (interval : Interval) (now : ℕ) (S : List Value → Type 0) (entries : List (List Value × List ℕ)) (places : List ℕ)
    → ((place : ℕ) (row : List Value) (times : List ℕ) → slice_get entries place ≡ Some (row, times) → S row → Contains places place)
    → (row : List Value) → GivenAt interval now S entries places row ↔ GivesRow interval now S entries row
given_at_all interval now S entries places complete row = (
  λ at. ((at.2.0, there_from_get entries at.0 (row, at.2.0) at.2.1, at.2.2), at.2.3),
  λ g. let at = place_of_entry entries (row, g.0.0) g.0.1 in (at.0, complete at.0 row g.0.0 at.1 g.1, (g.0.0, at.1, g.0.2, g.1)),
)

pub found_all : (interval : Interval) (now : ℕ) (S : List Value → Type 0) (entries : List (List Value × List ℕ)) (places : List ℕ) (old out : List (List Value))
    → ((place : ℕ) (row : List Value) (times : List ℕ) → slice_get entries place ≡ Some (row, times) → S row → Contains places place)
    → ((row : List Value) → Contains out row ↔ (Contains old row ⊎ GivenAt interval now S entries places row))
    → (row : List Value) → Contains out row ↔ (Contains old row ⊎ GivesRow interval now S entries row)
found_all interval now S entries places old out complete found row =
    let same = given_at_all interval now S entries places complete row in (
      λ there. ⊎_elim (λ o. inl o) (λ at. inr (same.0 at)) ((found row).0 there),
      λ either. (found row).1 (⊎_elim (λ o. inl o) (λ g. inr (same.1 g)) either),
    )

-- none at no place
pub found_none : (interval : Interval) (now : ℕ) (S : List Value → Type 0) (entries : List (List Value × List ℕ)) (out : List (List Value))
    → (row : List Value) → Contains out row ↔ (Contains out row ⊎ GivenAt interval now S entries [] row)
found_none interval now S entries out row = (λ there. inl there, λ either. ⊎_elim (λ o. o) (λ at. absurd (none_in_nil at.0 at.1)) either)

-- and those of one place more
found_next : (interval : Interval) (now : ℕ) (S : List Value → Type 0) (entries : List (List Value × List ℕ)) (old out after : List (List Value)) (done : List ℕ) (place : ℕ)
    → ((row : List Value) → Contains out row ↔ (Contains old row ⊎ GivenAt interval now S entries done row))
    → ((row : List Value) → Contains after row ↔ (Contains out row ⊎ GivesRowAt interval now S entries place row))
    → (row : List Value) → Contains after row ↔ (Contains old row ⊎ GivenAt interval now S entries (done ++ place ∷ []) row)
found_next interval now S entries old out after done place so_far more row = (
  λ there. ⊎_elim (λ before. ⊎_elim (λ o. inl o) (λ at. inr (at.0, Contains-append_left done (place ∷ []) at.0 at.1, at.2)) ((so_far row).0 before))
      (λ new. inr (place, Contains-push done place, new)) ((more row).0 there),
  λ either. (more row).1 (⊎_elim (λ o. inl ((so_far row).1 (inl o))) (λ at. ⊎_elim
      (λ before. inl ((so_far row).1 (inr (at.0, before, at.2))))
      (λ last. inr (subst (λ n. GivesRowAt interval now S entries n row) (sym (only_item place at.0 last)) at.2))
      (Contains-append_cases done (place ∷ []) at.0 at.1)) either),
)

pub found_at : (interval : Interval) (now : ℕ) (S : List Value → Type 0) (entries : List (List Value × List ℕ)) (old out after : List (List Value)) (places : List ℕ) (i d : ℕ)
    → i < length places → ((row : List Value) → Contains out row ↔ (Contains old row ⊎ GivenAt interval now S entries (take i places) row))
    → ((row : List Value) → Contains after row ↔ (Contains out row ⊎ GivesRowAt interval now S entries (get_or places i d) row))
    → (row : List Value) → Contains after row ↔ (Contains old row ⊎ GivenAt interval now S entries (take (i + 1) places) row)
found_at interval now S entries old out after places i d below so_far more =
    next_of (λ l. (row : List Value) → Contains after row ↔ (Contains old row ⊎ GivenAt interval now S entries l row)) places i (get_or places i d) below
    (get_or_default places i d (get_or places i d) below) (found_next interval now S entries old out after (take i places) (get_or places i d) so_far more)

-- the row at one place
module _ (interval : Interval) (now : ℕ) (S : List Value → Type 0) (entries : List (List Value × List ℕ)) (place : ℕ) (out : List (List Value)) where
  pub at_more : (after : List (List Value)) (row key : List Value) (times : List ℕ) → slice_get entries place ≡ Some (row, times) → IsSomeIn interval now times → S row → key ≡ row
      → after ≡ out ++ key ∷ [] → (r : List Value) → Contains after r ↔ (Contains out r ⊎ GivesRowAt interval now S entries place r)
  at_more after row key times at some survives same grown r = (
    λ there. ⊎_elim (λ before. inl before)
        (λ last. inr (subst (GivesRowAt interval now S entries place) (sym same ∙ only_item key r last) (times, at, some, survives)))
        (Contains-append_cases out (key ∷ []) r (subst (λ l. Contains l r) grown there)),
    λ either. subst (λ l. Contains l r) (sym grown) (⊎_elim (λ o. Contains-append_left out (key ∷ []) r o)
        (λ g. let same_row : row ≡ r = ap (λ e. e.0) (same_Some (row, times) (r, g.0) (sym at ∙ g.1)) in
        subst (Contains (out ++ key ∷ [])) (same ∙ same_row) (Contains-push out key)) either),
  )

  pub at_no_more : ((row : List Value) (times : List ℕ) → slice_get entries place ≡ Some (row, times) → IsSomeIn interval now times × S row → ⊥)
      → (r : List Value) → Contains out r ↔ (Contains out r ⊎ GivesRowAt interval now S entries place r)
  at_no_more not_it r = (λ there. inl there, λ either. ⊎_elim (λ o. o) (λ g. absurd (not_it r g.0 g.1 (g.2, g.3))) either)

pub none_at_place : {X Y : Type 0} (r : Option X) (f : X → Y) (o : Option Y) → option_map f r ≡ o → ((x : X) → r ≡ Some x → ⊥) → (y : Y) → o ≡ Some y → ⊥
none_at_place None f o same not_some y is = none-some y (same ∙ is)
none_at_place (Some x) f o same not_some y is = absurd (not_some x refl)

-- ---- whether one of the rows is given

module _ (interval : Interval) (now : ℕ) (S : List Value → Type 0) (entries : List (List Value × List ℕ)) where
  pub one_at_place : (place : ℕ) (e : List Value × List ℕ) (b : Bool) → slice_get entries place ≡ Some e → IsTrue b ↔ (IsSomeIn interval now e.1 × S e.0)
      → IsTrue b ↔ ((row : List Value) × GivesRowAt interval now S entries place row)
  one_at_place place e b at told = (
    λ yes. let both = told.0 yes in (e.0, (e.1, at, both.0, both.1)),
    λ given. told.1 (subst (λ (x : List Value × List ℕ). IsSomeIn interval now x.1 × S x.0) (same_Some (given.0, given.1.0) e (sym given.1.1 ∙ at)) (given.1.2, given.1.3)),
  )

  pub none_given_at : (place : ℕ) → ((e : List Value × List ℕ) → slice_get entries place ≡ Some e → ⊥) → IsTrue false ↔ ((row : List Value) × GivesRowAt interval now S entries place row)
  none_given_at place none = (λ no. absurd (false≢true no), λ given. absurd (none (given.0, given.1.0) given.1.1))

  -- the first that is found is enough
  pub one_given : (place : ℕ) (b : Bool) → IsTrue b → IsTrue b ↔ ((row : List Value) × GivesRowAt interval now S entries place row)
      → IsTrue true ↔ ((row : List Value) × GivesRow interval now S entries row)
  one_given place b found told =
      let g = told.0 found in (λ _. (g.0, ((g.1.0, there_from_get entries place (g.0, g.1.0) g.1.1, g.1.2), g.1.3)), λ _. refl)

  -- none at these places
  abbrev pub NoneAt : List ℕ → Type 0
  NoneAt places = (row : List Value) → GivenAt interval now S entries places row → ⊥

  pub none_yet : NoneAt []
  none_yet row at = none_in_nil at.0 at.1

  pub none_more : (places : List ℕ) (i d : ℕ) (b : Bool) → i < length places → NoneAt (take i places) → b ≡ false
      → IsTrue b ↔ ((row : List Value) × GivesRowAt interval now S entries (get_or places i d) row) → NoneAt (take (i + 1) places)
  none_more places i d b below so_far fails told =
      let place = get_or places i d in
      next_of NoneAt places i place below (get_or_default places i d place below) (λ row at. ⊎_elim
      (λ before. so_far row (at.0, before, at.2))
      (λ last. false≢true (sym fails ∙ told.1 (row, subst (λ n. GivesRowAt interval now S entries n row) (sym (only_item place at.0 last)) at.2)))
      (Contains-append_cases (take i places) (place ∷ []) at.0 at.1))

  pub none_found : (places : List ℕ) → ((place : ℕ) (row : List Value) (times : List ℕ) → slice_get entries place ≡ Some (row, times) → S row → Contains places place) → NoneAt places
      → IsTrue false ↔ ((row : List Value) × GivesRow interval now S entries row)
  none_found places complete none =
      (λ no. absurd (false≢true no), λ given. absurd (none given.0 ((given_at_all interval now S entries places complete given.0).1 given.1)))

  -- nor below this one
  abbrev pub NoneBelow : ℕ → Type 0
  NoneBelow bound = (place : ℕ) → place < bound → (row : List Value) → GivesRowAt interval now S entries place row → ⊥

  pub none_below_more : (bound : ℕ) (b : Bool) → NoneBelow bound → b ≡ false → IsTrue b ↔ ((row : List Value) × GivesRowAt interval now S entries bound row) → NoneBelow (bound + 1)
  none_below_more bound b so_far fails told place below row given = ⊎_elim
      (λ before. so_far place before row given)
      (λ above. let same : place ≡ bound = omega (arith, below, above) in
      false≢true (sym fails ∙ told.1 (row, subst (λ n. GivesRowAt interval now S entries n row) same given)))
      (cases_lt place bound)

  below_length : (xs : List (List Value × List ℕ)) (place : ℕ) (e : List Value × List ℕ) → slice_get xs place ≡ Some e → place < length xs
  below_length [] place e at = absurd (none-some e at)
  below_length (x ∷ xs) zero e at = omega (arith)
  below_length (x ∷ xs) (suc place) e at = let rest = below_length xs place e at in omega (arith, rest)

  pub none_below_all : (bound : ℕ) → length entries ≤ bound → NoneBelow bound → IsTrue false ↔ ((row : List Value) × GivesRow interval now S entries row)
  none_below_all bound all none = (
    λ no. absurd (false≢true no),
    λ given. let at = place_of_entry entries (given.0, given.1.0.0) given.1.0.1 in
        let below = below_length entries at.0 (given.0, given.1.0.0) at.1 in
        absurd (none at.0 (omega (arith, all, below)) given.0 (given.1.0.0, at.1, given.1.0.2, given.1.1)),
  )

-- ---- whether a row of a list passes

module _ (P : List Value → Type 0) (rows : List (List Value)) where
  abbrev pub NonePasses : List (List Value) → Type 0
  NonePasses done = (row : List Value) → Contains done row → P row → ⊥

  pub none_passes_yet : NonePasses []
  none_passes_yet row there holds = none_in_nil row there

  pub none_passes_more : (i : ℕ) (row : List Value) → i < length rows → row ≡ get_or rows i row → NonePasses (take i rows) → (P row → ⊥) → NonePasses (take (i + 1) rows)
  none_passes_more i row below is so_far fails = next_of NonePasses rows i row below is (λ r there passes. ⊎_elim
      (λ before. so_far r before passes) (λ last. fails (subst P (sym (only_item row r last)) passes)) (Contains-append_cases (take i rows) (row ∷ []) r there))

  pub one_passes : (i : ℕ) (row : List Value) → i < length rows → row ≡ get_or rows i row → P row → IsTrue true ↔ ((r : List Value) × Contains rows r × P r)
  one_passes i row below is passes = (λ _. (row, subst (Contains rows) (sym is) (Contains-get_or rows i row below), passes), λ _. refl)

  pub none_of_all : NonePasses rows → IsTrue false ↔ ((r : List Value) × Contains rows r × P r)
  none_of_all none = (λ no. absurd (false≢true no), λ some. absurd (none some.0 some.1 some.2))

-- what stands at the place of the last row
pub last_at : (among : List VarId) (es : List (List Value × List ℕ)) (place : ℕ) (index : Option PartIndex) (o : Option (List Value × List ℕ))
    → o ≡ slice_get es place → (is : IsIndexButLast among (rows_of es) place index) → option_map (λ (e : List Value × List ℕ). e.0) o ≡ Some is.last
last_at among es place index o at is =
    ap (option_map (λ (e : List Value × List ℕ). e.0)) at ∙ sym (slice_get-map (λ (e : List Value × List ℕ). e.0) es place)
    ∙ ap (λ rows. slice_get rows place) is.split ∙ ap (slice_get (is.front ++ is.last ∷ [])) is.at ∙ behind is.front
  where
    behind : (front : List (List Value)) → slice_get (front ++ is.last ∷ []) (length front) ≡ Some is.last
    behind [] = refl
    behind (row ∷ front) = behind front

pub index_but_last : (among : List VarId) (es after : List (List Value × List ℕ)) (row : List Value) (new : List ℕ) (place : ℕ) (index : Option PartIndex) → place ≡ length es
    → length row ≡ length among → IfSome index (IsIndexOf among (rows_of es)) → after ≡ es ++ (row, new) ∷ [] → IsIndexButLast among (rows_of after) place index
index_but_last among es after row new place index at fits indexed grown = record {
  front = rows_of es;
  last = row;
  split = ap rows_of grown ∙ map-append (λ (e : List Value × List ℕ). e.0) es ((row, new) ∷ []);
  at = at ∙ sym (length-map es (λ (e : List Value × List ℕ). e.0));
  fits = fits;
  indexed = indexed;
}
