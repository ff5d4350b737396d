-- The items with one key in a list that is sorted by keys, between the places that two searches find.
use Rattle.enf_data.proofs.Vocabulary.{inl, inr, ◌≤◌, true, refl, arith, false, sym, IsTrue, Result, Ok, Err, is_ok, ℕ, ◌+◌, ◌-◌, ◌<◌, ⊎_elim, List, [], ◌∷◌, length, take, drop, get_or, Contains, ◌↔◌}
use Rattle.enf_data.proofs.Vocabulary.{ap, ◌∙◌, length-take, length-drop, get_or-take, get_or-drop, false≢true, cases_lt, Contains-get_or, searchable_from_sorted, IsNonDecreasingBy-drop, IsTotalOrder}
use Rattle.enf_data.proofs.Vocabulary.{tied_itself, IsAntisymmetric, IsSortedBy, IsNonDecreasingBy, IsPartitionedBy, IsPartitionPoint, IsSearchInRange, IsBinarySearchResult, is_lt, ordering_index}
use Rattle.enf_data.proofs.Vocabulary.{is_le, ◌⊎◌, Ordering, Less, Equal, Greater}
use Rattle.std.specs.Prelude.{◌≡◌}

pub no_tie : (r : Ordering) → r ≡ Equal → (r ≡ Less) ⊎ (r ≡ Greater) → ⊥
no_tie r e (inl l) = absurd (cc)
no_tie r e (inr g) = absurd (cc)

lt_down : (r s : Ordering) → ordering_index r ≤ ordering_index s → is_lt s ≡ true → is_lt r ≡ true
lt_down Less s le lt = refl
lt_down Equal Less le lt = absurd (omega (arith, le))
lt_down Equal Equal le lt = lt
lt_down Equal Greater le lt = absurd (false≢true lt)
lt_down Greater Less le lt = absurd (omega (arith, le))
lt_down Greater Equal le lt = lt
lt_down Greater Greater le lt = lt

le_down : (r s : Ordering) → ordering_index r ≤ ordering_index s → is_le s ≡ true → is_le r ≡ true
le_down Less s le lt = refl
le_down Equal s le lt = refl
le_down Greater Less le lt = absurd (omega (arith, le))
le_down Greater Equal le lt = absurd (omega (arith, le))
le_down Greater Greater le lt = lt

equal_between : (r : Ordering) → is_lt r ≡ false → is_le r ≡ true → r ≡ Equal
equal_between Less a b = absurd (false≢true (sym a))
equal_between Equal a b = refl
equal_between Greater a b = absurd (false≢true b)

module _ {X K : Type 0} {R : K → K → Ordering} (o : IsTotalOrder R) (exact : IsAntisymmetric R) (k : X
    → K) (xs : List X) (t : K) (up : IsSortedBy (λ a b. is_lt (R (k a) (k b))) xs) where
  rises : IsNonDecreasingBy (λ y. ordering_index (R (k y) t)) xs
  rises = searchable_from_sorted o k xs t up

  pub below_first : IsPartitionedBy (λ y. is_lt (R (k y) t)) xs
  below_first i j d le within lt = lt_down _ _ (rises i j d le within) lt

  pub up_to_last : (from : ℕ) → IsPartitionedBy (λ y. is_le (R (k y) t)) (drop from xs)
  up_to_last from i j d le within lt = le_down _ _ (IsNonDecreasingBy-drop
      (λ y. ordering_index (R (k y) t)) from xs rises i j d le within) lt

  pub tied_between : (from count : ℕ) → IsPartitionPoint (λ y. is_lt (R (k y) t) ≡ true)
      (λ y. is_lt (R (k y) t) ≡ false) xs from → IsPartitionPoint (λ y. is_le (R (k y) t) ≡ true)
      (λ y. is_le (R (k y) t) ≡ false) (drop from xs) count → (x : X)
      → Contains (take count (drop from xs)) x ↔ (Contains xs x × (k x ≡ t))
  tied_between from count first last x = (
    λ there.
        let i = there.0 in
        let short : (i < count) × (i < length xs - from) = (
          omega (arith, there.1, length-take count (drop from xs), length-drop from xs),
          omega
              (arith, there.1, length-take count (drop from xs), length-drop from xs),
        ) in
        let in_rest : get_or (drop from xs) i x ≡ x =
        sym (get_or-take count (drop from xs) i x short.0) ∙ there.2 in
        let in_all : get_or xs (from + i) x ≡ x = sym (get_or-drop from xs i x) ∙ in_rest in
        let le : is_le (R (k x) t) ≡ true = sym (ap (λ y. is_le (R (k y) t)) in_rest) ∙ last.0 i x
        (omega arith) short.0 in
        let lt : is_lt (R (k x) t) ≡ false = sym (ap (λ y. is_lt (R (k y) t)) in_all) ∙ first.1 (from + i) x
        (omega arith) (omega (arith, short.1)) in
        ((from + i, omega (arith, short.1), in_all), exact (k x) t (equal_between _ lt le)),
    λ tied.
        let j = tied.0.0 in
        let tie : R (k (get_or xs j x)) t ≡ Equal = ap (λ y. R (k y) t) tied.0.2 ∙ ap (λ a. R a t) tied.1
        ∙ tied_itself o t in
        let from_on : from ≤ j = ⊎_elim (λ lt. absurd (false≢true (sym (ap is_lt tie) ∙ first.0 j x
        (omega arith) lt))) (λ le. le) (cases_lt j from) in
        let at : get_or (drop from xs) (j - from) x ≡ get_or xs j x = get_or-drop from xs (j - from) x ∙ ap
        (λ n. get_or xs n x) (omega (arith, from_on)) in
        let within : j - from < length (drop from xs) = omega (arith, length-drop from xs, tied.0.1, from_on) in
        let before : j - from < count = ⊎_elim (λ lt. lt) (λ le. absurd (false≢true
        (sym (last.1 (j - from) x le within) ∙ ap (λ y. is_le (R (k y) t)) at
        ∙ ap is_le tie))) (cases_lt (j - from) count) in (
          j - from,
          omega (arith, length-take count (drop from xs), within, before),
          get_or-take count
              (drop from xs) (j - from) x before ∙ at ∙ tied.0.2,
        ),
  )

  -- where a search by the order ends tells whether there is an item with the key
  pub found_tells : (r : Result ℕ ℕ) → IsSearchInRange r (length xs)
      → IsBinarySearchResult (λ y. R (k y) t) xs r
      → IsTrue (is_ok r) ↔ ((x : X) × Contains xs x × (k x ≡ t))
  found_tells (Ok i) within at = (λ _. some xs within at, λ _. refl)
    where
      some : (ys : List X) → i < length ys → ((d : X) → R (k (get_or ys i d)) t ≡ Equal)
          → (x : X) × Contains ys x × (k x ≡ t)
      some [] lt tied = absurd (omega (arith, lt))
      some (y ∷ ys) lt tied = (get_or (y ∷ ys) i y, Contains-get_or (y ∷ ys) i y lt, exact _ _ (tied y))
  found_tells (Err i) within at =
      let parted = at rises in (
        λ ok. absurd (false≢true ok),
        λ there. absurd (no_tie _ (ap (λ y. R (k y) t) there.1.2 ∙ ap (λ a. R a t) there.2 ∙ tied_itself o t)
            (⊎_elim (λ before. inl (parted.0 there.1.0 there.0 (omega arith) before))
            (λ behind. inr (parted.1 there.1.0 there.0 behind there.1.1)) (cases_lt there.1.0 i))),
      )
