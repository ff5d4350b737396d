-- The order of rows is total, and what a sort, a `dedup` and a search by it leave and find.
use Rattle.valuations.proofs.Vocabulary.{◌≡◌, ℕ, ◌+◌, true, List, length, get_or, Result, Ok, Err, Contains, IsTrue, ◌↔◌, refl, sym, ap, subst, ◌∙◌, arith, is_ok, inl, inr, ⊎_elim, IsTotalOrder}
use Rattle.valuations.proofs.Vocabulary.{tied_itself, eq_by_cmp_equiv, IsAntisymmetric, dedup, IsSorted, IsPermutation, IsBinarySearchResult, IsSearchInRange, is_lt, is_eq, eq_by_cmp}
use Rattle.valuations.proofs.Vocabulary.{ordering_reverse, Ordering, Less, Equal, Greater, false≢true, cases_lt, searchable_from_sorted, Contains-permutation, IsPermutation-sym, Contains-dedup}
use Rattle.valuations.proofs.Vocabulary.{Contains-from_dedup, IsStrictlySortedBy-dedup, Less-from_sorted, row_cmp, Value}
use Rattle.std.specs.List.Sorted.{IsStrictlySortedBy}
pub use Rattle.enf_data.proofs.ValueOrder.{value_cmp_total, value_cmp_exact, row_cmp_total, row_cmp_exact}
pub use Rattle.valuations.proofs.KeyLaws.{key_cmp_total, key_cmp_exact}
pub use Rattle.enf_data.proofs.RisingLists.{sorted_from_strict}
pub use Rattle.enf_data.proofs.SortedSearch.{no_tie}

ties_same : {K : Type 0} (R : K → K → Ordering) → IsAntisymmetric R → (x y : K) → eq_by_cmp R x y ≡ true → x ≡ y
ties_same R exact x y e = by (R x y) refl e
  where
    by : (r : Ordering) → R x y ≡ r → is_eq r ≡ true → x ≡ y
    by Less is t = absurd (false≢true t)
    by Equal is t = exact x y is
    by Greater is t = absurd (false≢true t)

-- where a search by the order ends tells whether the key is there
pub search_tells : {K : Type 0} {R : K → K → Ordering} → IsTotalOrder R → IsAntisymmetric R → (xs : List K) (x : K) (r : Result ℕ ℕ) → IsStrictlySortedBy R xs
    → IsSearchInRange r (length xs) → IsBinarySearchResult (λ y. R y x) xs r → IsTrue (is_ok r) ↔ Contains xs x
search_tells {R = R} o exact xs x (Ok i) rising within at = (λ _. (i, within, exact _ _ (at x)), λ _. refl)
search_tells {R = R} o exact xs x (Err i) rising within at =
    let parted = at (searchable_from_sorted o (λ k. k) xs x (sorted_from_strict o xs rising)) in (
      λ t. absurd (false≢true t),
      λ there. absurd (no_tie _ (ap (λ y. R y x) there.2 ∙ tied_itself o x)
          (⊎_elim (λ below. inl (parted.0 there.0 x (omega arith) below)) (λ above. inr (parted.1 there.0 x above there.1)) (cases_lt there.0 i))),
    )

-- what a sort and a `dedup` leave: the rows strictly rise, and they are those that were there
pub record IsSortedSet (before after : List (List Value)) : Type 0 where
  pub rising : IsStrictlySortedBy row_cmp after
  pub rows : (row : List Value) → Contains after row ↔ Contains before row

pub sorted_set : (before sorted after : List (List Value)) → IsPermutation before sorted → IsSorted row_cmp sorted → after ≡ dedup (eq_by_cmp row_cmp) sorted → IsSortedSet before after
sorted_set before sorted after moved up is = record {
  rising = subst (IsStrictlySortedBy row_cmp) (sym is) (IsStrictlySortedBy-dedup row_cmp_total (λ a b. refl) sorted up);
  rows = λ row. (
    λ there. Contains-permutation sorted before row (IsPermutation-sym before sorted moved) (Contains-from_dedup (eq_by_cmp row_cmp) sorted row (subst (λ l. Contains l row) is there)),
    λ there. subst (λ l. Contains l row) (sym is) (Contains-dedup (eq_by_cmp_equiv row_cmp_total) (ties_same row_cmp row_cmp_exact) sorted row (Contains-permutation before sorted row moved there)),
  );
}
