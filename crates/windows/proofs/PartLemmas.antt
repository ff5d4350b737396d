-- The rows that agree with the rows of a table of some of their columns.
use Rattle.windows.proofs.Vocabulary.{◌≡◌, ◌∙◌, ◌↔◌, ◌⊎◌, inl, inr, ⊎_elim, ℕ, ◌+◌, ◌<◌, Bool, true, false, IsTrue, List, [], ◌∷◌, ◌++◌, length, take, get_or, Contains, Option, None, Some, refl, sym}
use Rattle.windows.proofs.Vocabulary.{ap, subst, Contains-append_cases, Contains-append_left, Contains-push, none-some, none_in_nil, only_item, here, later, HasNoRepeats, Interval, VarId, Value}
use Rattle.windows.proofs.Vocabulary.{Valuation, value_at, cell_some, cond, row_cell, table_row-length, Relation, IsTable, AgreesWithRow, HasValuation, IsBoundSame, AreWindowEntries}
use Rattle.windows.proofs.Vocabulary.{are_cells_as_bound, cells, Window, WindowKeeps, kept_entries, to_the_end, false≢true}
use Rattle.std.specs.Prelude.{◌==◌}
use Rattle.std.proofs.lemmas.Bool.{eqb-true}
use Rattle.std.specs.FinMap.{get-empty}
use Rattle.enf_data.specs.meaning.Valuations.{no_values, variable_cmp}
use Rattle.valuations.proofs.ColumnLaws.{same_variable}
use Rattle.valuations.proofs.ScopeLaws.{filled_unbound}
use Rattle.valuations.specs.machine.Bindings.{filled_from_row}
use Rattle.windows.proofs.BoundAnswerLemmas.{as_bound_decides}
use Rattle.windows.proofs.EntryLemmas.{next_of}
use Rattle.windows.proofs.WindowLemmas.{given_fits, given_rows, table_gives}
use Rattle.windows.specs.declared.surviving_rows.Surviving.TheVariants.{All as Whole}
use Rattle.windows.specs.machine.RowParts.{GivesPart, GivesSomePart}

-- ---- rows that are gathered part by part

module _ (interval : Interval) (now : ℕ) (columns : List VarId) (entries : List (List Value × List ℕ)) (of : List VarId) where
  abbrev pub Gathered : List (List Value) → List (List Value) → List (List Value) → Type 0
  Gathered old parts out = (row : List Value) → Contains out row ↔ (Contains old row ⊎ GivesSomePart interval now columns entries of parts row)

  pub gathered_none : (out : List (List Value)) → Gathered out [] out
  gathered_none out row = (λ there. inl there, λ either. ⊎_elim (λ o. o) (λ some. absurd (none_in_nil some.0 some.1)) either)

  pub gathered_next : (parts : List (List Value)) (i : ℕ) (part : List Value) (old out after : List (List Value)) → i < length parts → part ≡ get_or parts i part → Gathered old (take i parts) out
      → ((row : List Value) → Contains after row ↔ (Contains out row ⊎ GivesPart interval now columns entries of part row)) → Gathered old (take (i + 1) parts) after
  gathered_next parts i part old out after below is so_far more = next_of (λ l. Gathered old l after) parts i part below is (λ row. (
    λ there. ⊎_elim
        (λ before. ⊎_elim (λ o. inl o) (λ some. inr (some.0, Contains-append_left (take i parts) (part ∷ []) some.0 some.1, some.2)) ((so_far row).0 before))
        (λ new. inr (part, Contains-push (take i parts) part, new)) ((more row).0 there),
    λ either. (more row).1 (⊎_elim (λ o. inl ((so_far row).1 (inl o))) (λ some. ⊎_elim
        (λ before. inl ((so_far row).1 (inr (some.0, before, some.2))))
        (λ last. inr (subst (λ p. GivesPart interval now columns entries of p row) (sym (only_item part some.0 last)) some.2))
        (Contains-append_cases (take i parts) (part ∷ []) some.0 some.1)) either),
  ))

-- ---- what agrees with a part

-- a column that has a value in a row is one of its columns
cell_there : (columns : List VarId) (row : List Value) (x : VarId) (value : Value) → row_cell columns row x ≡ Some value → Contains columns x
cell_there [] row x value is = absurd (none-some value is)
cell_there (column ∷ columns) [] x value is = absurd (none-some value is)
cell_there (column ∷ columns) (own ∷ row) x value is = by (column.0 == x.0) refl is (λ behind. cell_there columns row x value behind)
  where
    by : (b : Bool) → (column.0 == x.0) ≡ b → cond b (Some own) (row_cell columns row x) ≡ Some value → (row_cell columns row x ≡ Some value → Contains columns x)
        → Contains (column ∷ columns) x
    by true same found rest = subst (Contains (column ∷ columns)) (same_variable column x (eqb-true column.0 x.0 same)) (here column columns)
    by false other found rest = later x column columns (rest found)

module _ (columns of : List VarId) (distinct : HasNoRepeats columns) (within : (x : VarId) → Contains of x → Contains columns x) (part row : List Value) (v : Valuation)
    (long : length row ≡ length columns) (long_part : length part ≡ length of) (agrees : AgreesWithRow v columns row) where
  abbrev filled : Valuation
  filled = filled_from_row no_values of part

  cell_of : (x : VarId) → value_at filled x ≡ row_cell of part x
  cell_of x = filled_unbound no_values of part x (get-empty variable_cmp x)

  bound_so : (x : VarId) (o : Option Value) → row_cell of part x ≡ o → (Contains of x → value_at v x ≡ row_cell of part x) → IsBoundSame o (value_at v x)
  bound_so x None is same = tt
  bound_so x (Some value) is same = same (cell_there of part x value is) ∙ is

  pub part_agrees : IsTrue (are_cells_as_bound (cells columns filled) row) ↔ AgreesWithRow v of part
  part_agrees =
      let tells = as_bound_decides columns row filled v distinct long agrees in (
        λ passes x there. let cell = cell_some of part x long_part there in
            subst (λ o. IsBoundSame o (value_at v x)) (cell_of x ∙ cell.1) (tells.0 passes x (within x there)) ∙ sym cell.1,
        λ same. tells.1 (λ x there. subst (λ o. IsBoundSame o (value_at v x)) (sym (cell_of x)) (bound_so x (row_cell of part x) refl (same x))),
      )

-- ---- what a table of those rows has

module _ (window : Window) (interval : Interval) (columns : List VarId) (last : ℕ) (es : List (List Value × List ℕ)) (distinct : HasNoRepeats columns)
    (kept : AreWindowEntries (length columns) last es)
    (is : record { interval = interval; columns = columns; last = last; kept = kept_entries es } ≡ window) (parts : Relation) (table : IsTable parts)
    (within : (x : VarId) → Contains parts.columns x → Contains columns x) (out : List (List Value))
    (outs : Gathered (to_the_end interval) last columns es parts.columns [] parts.rows out) where
  some_part : (row : List Value) → Contains out row → GivesSomePart (to_the_end interval) last columns es parts.columns parts.rows row
  some_part row there = ⊎_elim (λ none. absurd (none_in_nil row none)) (λ some. some) ((outs row).0 there)

  pub long_of_parts : (row : List Value) → Contains out row → length row ≡ length columns
  long_of_parts row there =
      let g = (some_part row there).2 in given_fits interval (to_the_end interval) columns last last es Whole distinct kept tt (λ _. tt) row (g.0, tt)

  pub rows_of_some : (t : Relation) → t.columns ≡ columns → ((row : List Value) → Contains t.rows row ↔ Contains out row) → (v : Valuation)
      → HasValuation t v ↔ (WindowKeeps window window.last v × HasValuation parts v)
  rows_of_some t same rows v = subst (λ (u : Window). HasValuation t v ↔ (WindowKeeps u u.last v × HasValuation parts v)) is (
    λ has. let h = (table_gives t columns out same rows v).0 has in
        let some = some_part h.0 h.1 in
        let g = some.2 in (
          ((given_rows interval (to_the_end interval) columns last last es Whole distinct kept tt (λ _. tt) v).0 (h.0, (g.0, tt), h.2)).0,
          (some.0, some.1, (part_agrees columns parts.columns distinct within some.0 h.0 v (long_of_parts h.0 h.1) (table_row-length parts some.0 table some.1) h.2).0 g.1.1),
        ),
    λ both. let found = (given_rows interval (to_the_end interval) columns last last es Whole distinct kept tt (λ _. tt) v).1 (both.0, tt) in
        let long = given_fits interval (to_the_end interval) columns last last es Whole distinct kept tt (λ _. tt) found.0 found.1 in
        let part = both.1.0 in
        (table_gives t columns out same rows v).1 (
          found.0,
          (outs found.0).1 (inr (
            part,
            both.1.1,
            (
              found.1.0,
              (
                tt,
                (part_agrees columns parts.columns distinct within part found.0 v long (table_row-length parts part table both.1.1) found.2).1 both.1.2,
              ),
            ),
          )),
          found.2,
        ),
  )
