-- References to entries that are sorted by place.
use Rattle.sleepers.proofs.Vocabulary.{◌≡◌, ℕ, ◌+◌, true, false, true≢false, List, [], ◌∷◌, Contains, inl, inr, ⊎_elim, refl, sym, ap, subst, ◌∙◌, arith, length, map, get_or, Bor, IsPermutation}
use Rattle.sleepers.proofs.Vocabulary.{IsSortedByKey, eq_by_cmp, is_eq, is_lt, ordering_reverse, Ordering, Less, Equal, Greater, eq_by_cmp_equiv, get_or-map, length-map, Contains-permutation}
use Rattle.sleepers.proofs.Vocabulary.{IsPermutation-map, IsPermutation-sym, IsDistinct-IsPermutation, IsDistinct-cons, apart_from_distinct, sorted_from_all_adjacent, sorted_head, sorted_tail}
use Rattle.sleepers.proofs.Vocabulary.{false_from_ne_true, Split, here, later, AllByRecursion-contains, AllByRecursion-from_contains, HasNoRepeats, Event, AllButThose, ArePlaced, IsAsleep}
use Rattle.sleepers.proofs.Vocabulary.{entry_places, shown, AreAwake, by_place, entries_of, held, ArePlacesInOrder, Place, place_cmp, Entry}
use Rattle.std.specs.List.{IsDistinct}
use Rattle.std.specs.List.Sorted.{IsStrictlySortedBy}
use Rattle.sleepers.proofs.GroupLemmas.{of_once, placed_once, woken_others, woken_without}
use Rattle.sleepers.proofs.PlaceLemmas.{before_is, place_total, tied_is}
use Rattle.sleepers.proofs.PlaceListLemmas.{all_but, at_place, by_place_has, by_place_in, by_place_placed}
use Rattle.sleepers.proofs.StepLemmas.{one_list, same_place}

same_test : (p q : Place) (o : Ordering) → place_cmp p q ≡ o → is_eq o ≡ true → p ≡ q
same_test p q Less is tested = absurd (true≢false (sym tested))
same_test p q Equal is tested = tied_is p q is
same_test p q Greater is tested = absurd (true≢false (sym tested))

distinct : (ps : List Place) → HasNoRepeats ps → IsDistinct (eq_by_cmp place_cmp) ps
unfolding IsDistinct
distinct [] once = tt
distinct (p ∷ ps) once =
    IsDistinct-cons (eq_by_cmp place_cmp) p ps
    (AllByRecursion-from_contains (λ q. eq_by_cmp place_cmp p q ≡ false) ps (λ q there. false_from_ne_true (eq_by_cmp place_cmp p q)
    (λ same. once.0 (subst (λ (z : Place). Contains ps z) (sym (same_test p q (place_cmp p q) refl same)) there))))
    (distinct ps once.1)

in_order_from : (ps : List Place) → IsStrictlySortedBy place_cmp ps → ArePlacesInOrder ps
in_order_from [] sorted = tt
in_order_from (p ∷ ps) sorted = (
  (λ q there. (before_is p q).0 (AllByRecursion-contains (λ r. place_cmp p r ≡ Less) ps q (sorted_head place_cmp p ps sorted) there)),
  in_order_from ps (sorted_tail place_cmp p ps sorted),
)

less_else : (p q : Place) → is_lt (place_cmp q p) ≡ false → eq_by_cmp place_cmp p q ≡ false → place_cmp p q ≡ Less
less_else p q not_less apart = by (place_cmp p q) refl
  where
    by : (o : Ordering) → place_cmp p q ≡ o → o ≡ Less
    by Less is = refl
    by Equal is = absurd (true≢false (sym (ap is_eq is) ∙ apart))
    by Greater is =
        let turned : place_cmp q p ≡ Less = place_total.antisymm q p ∙ ap ordering_reverse is in
        absurd (true≢false (sym (ap is_lt turned) ∙ not_less))

module _ {T : Type 0} where
  abbrev key_of : Bor (Entry T) → Place
  key_of reference = reference.now.place

  keys_are : (references : List (Bor (Entry T))) → map key_of references ≡ entry_places (shown references)
  keys_are [] = refl
  keys_are (r ∷ references) = ap (λ (l : List Place). r.now.place ∷ l) (keys_are references)

  keys_sorted : (references : List (Bor (Entry T))) → IsSortedByKey key_of place_cmp references → IsDistinct (eq_by_cmp place_cmp) (map key_of references)
      → IsStrictlySortedBy place_cmp (map key_of references)
  unfolding IsStrictlySortedBy
  keys_sorted [] sorted apart = tt
  keys_sorted (r ∷ rest) sorted apart =
      let references = r ∷ rest in
      let ps = map key_of references in
      sorted_from_all_adjacent place_total ps [] (λ k below.
      let many : length ps ≡ length references = length-map references key_of in
      let one : get_or ps k [] ≡ key_of (get_or references k r) = get_or-map key_of references k r [] (omega (arith, below, many)) in
      let two : get_or ps (k + 1) [] ≡ key_of (get_or references (k + 1) r) = get_or-map key_of references (k + 1) r [] (omega (arith, below, many)) in
      let order : is_lt (place_cmp (get_or ps (k + 1) []) (get_or ps k [])) ≡ false =
      ap (λ (p : Place). is_lt (place_cmp p (get_or ps k []))) two ∙ ap (λ (p : Place). is_lt (place_cmp (key_of (get_or references (k + 1) r)) p)) one
      ∙ sorted k r (omega arith) (omega (arith, below, many)) in
      less_else (get_or ps k []) (get_or ps (k + 1) []) order (apart_from_distinct (eq_by_cmp place_cmp) ps k (k + 1) [] apart (omega arith) below))

  module _ (before after : List (Bor (Entry T))) (same : IsPermutation before after) (sorted : IsSortedByKey key_of place_cmp after) where
    pub sorted_placed : HasNoRepeats (entry_places (shown before)) → ArePlaced (shown after)
    sorted_placed once =
        let apart = distinct (map key_of before) (subst HasNoRepeats (sym (keys_are before)) once) in
        let moved = IsDistinct-IsPermutation (eq_by_cmp place_cmp) (λ x y. (eq_by_cmp_equiv place_total).symm x y) (map key_of before) (map key_of after)
        (IsPermutation-map key_of before after same) apart in
        subst ArePlacesInOrder (keys_are after) (in_order_from (map key_of after) (keys_sorted after sorted moved))

    pub sorted_in : (x : Entry T) → Contains (shown after) x → Contains (shown before) x
    sorted_in x there =
        Contains-permutation (shown after) (shown before) x (IsPermutation-sym (shown before) (shown after) (IsPermutation-map (λ r. r.now) before after same)) there

    pub sorted_has : (x : Entry T) → Contains (shown before) x → Contains (shown after) x
    sorted_has x there = Contains-permutation (shown before) (shown after) x (IsPermutation-map (λ r. r.now) before after same) there

    pub all_in_order : (entries : List (Entry T)) → shown before ≡ entries → HasNoRepeats (entry_places entries) → shown after ≡ by_place entries
    all_in_order entries are once =
        one_list (shown after) (by_place entries) (sorted_placed (subst (λ (l : List (Entry T)). HasNoRepeats (entry_places l)) (sym are) once)) (by_place_placed entries once) (λ x. (
          (λ there. by_place_has entries x (subst (λ (l : List (Entry T)). Contains l x) are (sorted_in x there))),
          (λ there. sorted_has x (subst (λ (l : List (Entry T)). Contains l x) (sym are) (by_place_in entries x there))),
        ))

  places_once : (xs all : List (Entry T)) → ArePlaced all → ((x : Entry T) → Contains xs x → Contains all x) → HasNoRepeats xs → HasNoRepeats (entry_places xs)
  places_once [] all order within once = tt
  places_once (x ∷ xs) all order within once = (
    (λ there.
        let (y, among, at) = at_place xs x.place there in
        once.0 (subst (λ (z : Entry T). Contains xs z) (same_place all y x order (within y (later y x xs among)) (within x (here x xs)) at) among)),
    places_once xs all order (λ y there. within y (later y x xs there)) once.1,
  )

  pub woken_in_order : (events : List Event) (time : ℕ) (groups : List (Split (Entry T))) (numbers : List ℕ) (before after : List (Bor (Entry T)))
      → IsPermutation before after → IsSortedByKey key_of place_cmp after → shown before ≡ entries_of groups numbers
      → AreAwake events time groups numbers → HasNoRepeats (entry_places (held groups))
      → AllButThose (IsAsleep events time) (by_place (held groups)) (shown after)
  woken_in_order events time groups numbers before after same sorted are awake once =
      let all = by_place (held groups) in
      let order : ArePlaced all = by_place_placed (held groups) once in
      let within : (x : Entry T) → Contains (entries_of groups numbers) x → Contains all x = λ x there. (woken_without events time groups numbers awake x there).0 in
      let apart = places_once (entries_of groups numbers) all order within (of_once groups numbers (placed_once (held groups) once) awake.once) in
      all_but (IsAsleep events time) all (shown after) order (sorted_placed before after same sorted (subst (λ (l : List (Entry T)). HasNoRepeats (entry_places l)) (sym are) apart))
      (λ x there. woken_without events time groups numbers awake x (subst (λ (l : List (Entry T)). Contains l x) are (sorted_in before after same sorted x there)))
      (λ x there. ⊎_elim (λ among. inl (sorted_has before after same sorted x (subst (λ (l : List (Entry T)). Contains l x) (sym are) among))) (λ asleep. inr asleep)
      (woken_others events time groups numbers awake x there))
