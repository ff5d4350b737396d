-- What rises has no repeats, two rising lists of the same items are one, and a search finds what is in one.
use Rattle.enf_data.proofs.ListFacts.{Less_from_test}
use Rattle.enf_data.proofs.Lists.{AllByRecursion-append, AllByRecursion-of_append, here, later, first_or_later, none_in_nil}
use Rattle.enf_data.proofs.SortedSearch.{found_tells}
use Rattle.enf_data.proofs.Vocabulary.{HasNoRepeats, ◌≡◌, List, [], ◌∷◌, ◌++◌, Contains, refl, sym, ap, subst, ⊎_elim, ◌∙◌, Contains-append_right, sorted_head, sorted_tail, IsTotalOrder}
use Rattle.enf_data.proofs.Vocabulary.{AllByRecursion, ordering_reverse, Ordering, Less, Equal, Greater, ◌<◌, ◌+◌, ℕ, Bool, true, false, true≢false, false≢true, arith, get_or, is_lt, length}
use Rattle.enf_data.proofs.Vocabulary.{IsAntisymmetric, IsBinarySearchResult, IsSearchInRange, RemovesItem, Err, Some, slice_get, slice_get-get_or}
use Rattle.std.proofs.lemmas.Map.Keys.{Less-from_sorted, sorted_from_all_adjacent}
use Rattle.std.specs.List.{IsAllAdjacentAnswer}
use Rattle.std.specs.List.Sorted.{IsSorted, IsStrictlySortedBy}

module _ {X : Type 0} {R : X → X → Ordering} (order : IsTotalOrder R) where
  not_both : (x y : X) → R x y ≡ Less → R y x ≡ Less → ⊥
  not_both x y less more =
      let turned : R x y ≡ ordering_reverse (R y x) = order.antisymm x y in
      let other : ordering_reverse (R y x) ≡ Greater = ap ordering_reverse more in absurd (cc)

  below_all : (x y : X) (xs : List X) → AllByRecursion (λ z. R x z ≡ Less) xs → Contains xs y → R x y ≡ Less
  below_all x y [] all there = absurd (none_in_nil y there)
  below_all x y (z ∷ xs) all there = ⊎_elim (λ (same : z ≡ y). subst (λ w. R x w ≡ Less) same all.0)
      (λ behind. below_all x y xs all.1 behind) (first_or_later y z xs there)

  -- what is after the first of one list is after the first of the other, where these are the same
  behind_too : (x y : X) (xs ys : List X) → x ≡ y → IsStrictlySortedBy R (x ∷ xs)
      → ((z : X) → Contains (x ∷ xs) z → Contains (y ∷ ys) z) → (z : X) → Contains xs z → Contains ys z
  behind_too x y xs ys same rise into z there =
      let above = below_all x z xs (sorted_head R x xs rise) there in
      let itself : y ≡ z → R x x ≡ Less = λ first. subst (λ w. R x w ≡ Less) (sym (same ∙ first)) above in
      ⊎_elim (λ (first : y ≡ z). absurd (not_both x x (itself first) (itself first))) (λ behind. behind)
      (first_or_later z y ys (into z (later z x xs there)))

  first_same : (x y : X) (xs ys : List X) → IsStrictlySortedBy R (x ∷ xs) → IsStrictlySortedBy R (y ∷ ys)
      → Contains (y ∷ ys) x → Contains (x ∷ xs) y → x ≡ y
  first_same x y xs ys rise too there back =
      let neither : Contains ys x → Contains xs y → ⊥ = λ behind after.
      not_both y x (below_all y x ys (sorted_head R y ys too) behind)
      (below_all x y xs (sorted_head R x xs rise) after) in
      ⊎_elim (λ (same : y ≡ x). sym same)
      (λ behind. ⊎_elim (λ (same : x ≡ y). same) (λ after. absurd (neither behind after))
      (first_or_later y x xs back))
      (first_or_later x y ys there)

  pub same_rising : (xs ys : List X) → IsStrictlySortedBy R xs → IsStrictlySortedBy R ys
      → ((z : X) → Contains xs z → Contains ys z) → ((z : X) → Contains ys z → Contains xs z) → xs ≡ ys
  same_rising [] [] rise too into from = refl
  same_rising [] (y ∷ ys) rise too into from = absurd (none_in_nil y (from y (here y ys)))
  same_rising (x ∷ xs) [] rise too into from = absurd (none_in_nil x (into x (here x xs)))
  same_rising (x ∷ xs) (y ∷ ys) rise too into from =
      let first : x ≡ y = first_same x y xs ys rise too (into x (here x xs)) (from y (here y ys)) in
      let rest : xs ≡ ys = same_rising xs ys (sorted_tail R x xs rise) (sorted_tail R y ys too)
      (behind_too x y xs ys first rise into) (behind_too y x ys xs (sym first) too from) in
      ap (λ z. z ∷ xs) first ∙ ap (λ zs. y ∷ zs) rest

  pub rising_distinct : (xs : List X) → IsStrictlySortedBy R xs → HasNoRepeats xs
  rising_distinct [] rise = tt
  rising_distinct (x ∷ xs) rise = (
    λ there. let less = below_all x x xs (sorted_head R x xs rise) there in not_both x x less less,
    rising_distinct xs (sorted_tail R x xs rise),
  )

  -- of a rising list no item is in front and after
  pub rising_apart : (xs ys : List X) → IsStrictlySortedBy R (xs ++ ys) → (z : X)
      → Contains ys z → Contains xs z → ⊥
  rising_apart [] ys rise z behind there = absurd (none_in_nil z there)
  rising_apart (x ∷ xs) ys rise z behind there = ⊎_elim
      (λ (same : x ≡ z).
      let less = below_all x z (xs ++ ys) (sorted_head R x (xs ++ ys) rise) (Contains-append_right xs ys z behind) in
      let again : R z z ≡ Less = subst (λ w. R w z ≡ Less) same less in not_both z z again again)
      (λ later. rising_apart xs ys (sorted_tail R x (xs ++ ys) rise) z behind later)
      (first_or_later z x xs there)

  -- keys that strictly rise do not fall
  pub sorted_from_strict : (xs : List X) → IsStrictlySortedBy R xs → IsSorted R xs
  sorted_from_strict xs rising k d low within =
      ap is_lt (order.antisymm (get_or xs (k + 1) d) (get_or xs k d)
      ∙ ap ordering_reverse (Less-from_sorted R xs k (k + 1) d rising (omega arith) within))

  -- where each item is before the next one, they rise
  pub rising_from_neighbours : (xs : List X) (r : Bool) → IsAllAdjacentAnswer (λ x y b. b ≡ is_lt (R x y)) xs r
      → r ≡ true → IsStrictlySortedBy R xs
  unfolding IsStrictlySortedBy
  rising_from_neighbours xs false told passed = absurd (false≢true passed)
  rising_from_neighbours [] true told passed = tt
  rising_from_neighbours (x ∷ xs) true told passed =
      sorted_from_all_adjacent order (x ∷ xs) x (λ k within. Less_from_test _ (sym (told k x within)))

  -- what a search by the order finds, and what is not there where it finds nothing
  pub found_there : IsAntisymmetric R → (xs : List X) (x : X) (i : ℕ) → i < length xs
      → ((d : X) → R (get_or xs i d) x ≡ Equal) → slice_get xs i ≡ Some x
  found_there exact xs x i within tied =
      slice_get-get_or xs i x within ∙ ap Some (exact (get_or xs i x) x (tied x))

  pub found_nowhere : IsAntisymmetric R → (xs : List X) (x : X) (i : ℕ) → IsStrictlySortedBy R xs
      → IsSearchInRange (Err i) (length xs) → IsBinarySearchResult (λ y. R y x) xs (Err i) → Contains xs x → ⊥
  found_nowhere exact xs x i rising within at there =
      false≢true ((found_tells order exact (λ y. y) xs x (sorted_from_strict xs rising) (Err i) within at).1
      (x, there, refl))

-- what is left of a rising list rises
rising_without : {X : Type 0} (R : X → X → Ordering) (front back : List X) (x : X)
    → IsStrictlySortedBy R (front ++ x ∷ back) → IsStrictlySortedBy R (front ++ back)
unfolding IsStrictlySortedBy
rising_without R [] back x rise = rise.1
rising_without R (y ∷ front) back x rise =
    let both = AllByRecursion-of_append (λ z. R y z ≡ Less) front (x ∷ back) rise.0 in (
      AllByRecursion-append (λ z. R y z ≡ Less) front back both.0 both.1.1,
      rising_without R front back x rise.1,
    )

pub rising_removed : {X : Type 0} (R : X → X → Ordering) (x : X) (before after : List X) (found : Bool)
    → RemovesItem x before found after → IsStrictlySortedBy R before → IsStrictlySortedBy R after
rising_removed R x before after true removes rise =
    let out = removes.present refl in
    subst (IsStrictlySortedBy R) (sym out.is)
    (rising_without R out.front out.back x (subst (IsStrictlySortedBy R) out.was rise))
rising_removed R x before after false removes rise =
    subst (IsStrictlySortedBy R) (sym (removes.absent refl).1) rise

-- what stands last in a rising list rises
pub rising_behind : {X : Type 0} (R : X → X → Ordering) (xs ys : List X) → IsStrictlySortedBy R (xs ++ ys)
    → IsStrictlySortedBy R ys
rising_behind R [] ys rise = rise
rising_behind R (x ∷ xs) ys rise = rising_behind R xs ys (sorted_tail R x (xs ++ ys) rise)
