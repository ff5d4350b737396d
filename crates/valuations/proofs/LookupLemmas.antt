-- A valuation's values of the columns, looked up among the rows.
use Rattle.valuations.proofs.Vocabulary.{◌≡◌, ℕ, zero, suc, ◌+◌, ◌<◌, List, [], ◌∷◌, length, map, drop, min, get_or, Option, Some, Contains, IsTrue, ◌↔◌, ◌⊎◌, ⊎_elim, inl, inr, is_ok, Result, Ok, Err}
use Rattle.valuations.proofs.Vocabulary.{refl, sym, ap, subst, ◌∙◌, arith, tied_itself, IsSearchInRange, IsBinarySearchResult, is_lt, nat_cmp, Less, Equal, Greater, false≢true, cases_lt, cases_order}
use Rattle.valuations.proofs.Vocabulary.{lt-ltb, le-ltb, eq-eqb, ne_eqb, Contains-get_or, searchable_from_sorted, HasNoRepeats, Valuation, value_at, VarId, Value, key_cmp, Relation, IsTable}
use Rattle.valuations.proofs.Vocabulary.{HasValuation, row_cell, row_cmp_total, no_tie, same_at, same_lists_at}
use Rattle.valuations.proofs.KeyLaws.{key_cmp_total, key_cmp_exact, same_order}
use Rattle.valuations.proofs.RowOrder.{sorted_from_strict}
use Rattle.valuations.proofs.RowLaws.{cell_here, cell_later, table_row-length}

-- the values of a row's columns are the row
cells_are : (columns : List VarId) (row : List Value) → HasNoRepeats columns → length row ≡ length columns → map (row_cell columns row) columns ≡ map Some row
cells_are [] [] distinct long = refl
cells_are [] (value ∷ row) distinct long = absurd (omega (arith, long))
cells_are (column ∷ columns) [] distinct long = absurd (omega (arith, long))
cells_are (column ∷ columns) (value ∷ row) distinct long =
    let first = cell_here column column columns value row refl in
    let rest = same_lists_at (row_cell (column ∷ columns) (value ∷ row)) (row_cell columns row) columns
    (λ x there. cell_later column x columns value row (λ same. distinct.0 (subst (Contains columns) (sym same) there))) ∙ cells_are columns row distinct.1 (omega (arith, long)) in
    λ i. first i ∷ rest i

zero_below : (n : ℕ) → Less ≡ nat_cmp 0 (suc n)
zero_below n = rw (lt-ltb 0 (suc n) (omega arith)) refl

above_zero : (n : ℕ) → Greater ≡ nat_cmp (suc n) 0
above_zero n = rw (le-ltb (suc n) 0 (omega arith), ne_eqb (suc n) 0 (omega arith)) refl

more_by : (m n : ℕ) → (m ≡ n) ⊎ ((m < n) ⊎ (n < m)) → nat_cmp m n ≡ nat_cmp (suc m) (suc n)
more_by m n (inl same) = rw (le-ltb m n (omega arith), eq-eqb m n same, le-ltb (suc m) (suc n) (omega arith), eq-eqb (suc m) (suc n) (omega arith)) refl
more_by m n (inr (inl below)) = rw (lt-ltb m n below, lt-ltb (suc m) (suc n) (omega arith)) refl
more_by m n (inr (inr above)) = rw (le-ltb m n (omega arith), ne_eqb m n (omega arith), le-ltb (suc m) (suc n) (omega arith), ne_eqb (suc m) (suc n) (omega arith)) refl

both_more : (m n : ℕ) → nat_cmp m n ≡ nat_cmp (suc m) (suc n)
both_more m n = more_by m n (cases_order m n)

-- where one of two lists is used up, their lengths tell
pub lengths_tell : {X : Type 0} (f : X → Option Value) (row : List Value) (columns : List X) (n : ℕ) → n ≡ min (length row) (length columns)
    → key_cmp (map Some (drop n row)) (map f (drop n columns)) ≡ nat_cmp (length row) (length columns)
lengths_tell f [] [] zero is = refl
lengths_tell f [] [] (suc n) is = absurd (omega arith)
lengths_tell f [] (x ∷ columns) zero is = zero_below (length columns)
lengths_tell f [] (x ∷ columns) (suc n) is = absurd (omega arith)
lengths_tell f (value ∷ row) [] zero is = above_zero (length row)
lengths_tell f (value ∷ row) [] (suc n) is = absurd (omega arith)
lengths_tell f (value ∷ row) (x ∷ columns) zero is = absurd (omega arith)
lengths_tell f (value ∷ row) (x ∷ columns) (suc n) is = lengths_tell f row columns n (omega arith) ∙ both_more (length row) (length columns)

-- where a search by the values of the columns ends tells whether the valuation is in the table
pub lookup_tells : (t : Relation) (v : Valuation) (r : Result ℕ ℕ) → IsTable t → IsSearchInRange r (length t.rows)
    → IsBinarySearchResult (λ row. key_cmp (map Some row) (map (value_at v) t.columns)) t.rows r → IsTrue (is_ok r) ↔ HasValuation t v
lookup_tells t v (Ok i) table within at =
    let row = get_or t.rows i [] in
    let there : Contains t.rows row = Contains-get_or t.rows i [] within in
    let same : map Some row ≡ map (value_at v) t.columns = key_cmp_exact (map Some row) (map (value_at v) t.columns) (at []) in (
      λ _. (
        row,
        there,
        λ x column. same_at (value_at v) (row_cell t.columns row) t.columns x
            (sym same ∙ sym (cells_are t.columns row table.distinct (table_row-length t row table there))) column,
      ),
      λ _. refl,
    )
lookup_tells t v (Err i) table within at =
    let wanted = map (value_at v) t.columns in
    let sorted = sorted_from_strict row_cmp_total t.rows table.rising in
    let parted = at (searchable_from_sorted key_cmp_total (λ row. map Some row) t.rows wanted
    (λ k d low lt. ap is_lt (same_order (get_or t.rows (k + 1) d) (get_or t.rows k d)) ∙ sorted k d low lt)) in (
      λ e. absurd (false≢true e),
      λ has.
          let row = has.0 in
          let found : wanted ≡ map Some row = same_lists_at (value_at v) (row_cell t.columns row) t.columns has.2 ∙ cells_are t.columns row table.distinct (table_row-length t row table has.1) in
          let tie : key_cmp (map Some (get_or t.rows has.1.0 row)) wanted ≡ Equal = ap (λ r. key_cmp (map Some r) wanted) has.1.2 ∙ ap (key_cmp (map Some row)) found ∙ tied_itself
          key_cmp_total (map Some row) in
          absurd (no_tie _ tie (⊎_elim (λ before. inl (parted.0 has.1.0 row (omega arith) before)) (λ behind. inr (parted.1 has.1.0 row behind has.1.1)) (cases_lt has.1.0 i))),
    )
