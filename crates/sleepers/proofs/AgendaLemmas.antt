-- Entries that are looked at in the order of their places: a search among them, and one that is put in.
use Rattle.sleepers.proofs.Vocabulary.{◌≡◌, ℕ, zero, suc, ◌+◌, ◌-◌, ◌<◌, ◌≤◌, List, [], ◌∷◌, ◌++◌, Contains, ◌⊎◌, inl, inr, ⊎_elim, refl, sym, ap, subst, ◌∙◌, arith, drop, get_or, length, take}
use Rattle.sleepers.proofs.Vocabulary.{IfSome, IsNone, Option, slice_get, false, true≢false}
use Rattle.sleepers.proofs.Vocabulary.{Bor, Contains-append, Contains-push_cases, take_all, Event, false_from_ne_true, first_or_later, here, later, length-map, none_in_nil, is_lt, ordering_reverse, Equal, Greater, HasNoRepeats}
use Rattle.sleepers.proofs.Vocabulary.{ArePlaced, AllButThose, entry_places, shown, by_place, IsContainedIn, IsPlaceBefore, Place, place_cmp, Entry}
use Rattle.sleepers.specs.machine.Agendas.{HaveOwnPlaces, IsGapFor, IsRousedOf, Rouses}
use Rattle.sleepers.proofs.EntryLemmas.{in_fewer, in_places, shown_put}
use Rattle.sleepers.proofs.LoopLemmas.{one_more}
use Rattle.sleepers.proofs.OrderLemmas.{not_back}
use Rattle.sleepers.proofs.PlaceLemmas.{before_from_test, before_is, place_total, tied_is}
use Rattle.sleepers.proofs.PlaceListLemmas.{at_place, by_place_has, by_place_in, by_place_placed}
use Rattle.sleepers.proofs.StepLemmas.{from_left, from_right, in_middle, round_middle, same_place}
use Rattle.std.proofs.lemmas.List.{drop-map, length-drop, take-append-drop, take_rest}
use Rattle.std.proofs.lemmas.List.Sorted.{searchable_from_sorted}
use Rattle.std.proofs.Common.{Result, Ok, Err, IfOk, IfErr}
use Rattle.std.specs.List.{insert}
use Rattle.std.specs.List.Sorted.{IsBinarySearchResult, IsNonDecreasingBy, IsSearchInRange}
use Rattle.std.specs.Ordering.{ordering_index}

greater_before : (p q : Place) → place_cmp p q ≡ Greater → IsPlaceBefore q p
greater_before p q greater =
    let turned : place_cmp q p ≡ ordering_reverse (place_cmp p q) = place_total.antisymm q p in
    (before_is q p).0 (turned ∙ ap ordering_reverse greater)

not_less : (p q : Place) → IsPlaceBefore p q → is_lt (place_cmp q p) ≡ false
not_less p q before = false_from_ne_true (is_lt (place_cmp q p)) (λ less. not_back p q before (before_from_test q p less))

module _ {T : Type 0} where
  -- ---- a search

  abbrev place_in : Bor (Entry T) → Place
  place_in reference = reference.now.place

  adjacent : (xs : List (Bor (Entry T))) (k : ℕ) (d : Bor (Entry T)) → ArePlaced (shown xs) → suc k < length xs
      → IsPlaceBefore (get_or xs k d).now.place (get_or xs (suc k) d).now.place
  adjacent [] k d order within = absurd (omega (arith, within))
  adjacent (x ∷ []) zero d order within = absurd (omega (arith, within))
  adjacent (x ∷ y ∷ xs) zero d order within = order.0 y.now.place (here y.now.place (entry_places (shown xs)))
  adjacent (x ∷ xs) (suc k) d order within = adjacent xs k d order.1 (omega (arith, within))

  rises : (xs : List (Bor (Entry T))) (place : Place) → ArePlaced (shown xs)
      → IsNonDecreasingBy (λ (r : Bor (Entry T)). ordering_index (place_cmp r.now.place place)) xs
  rises xs place order =
      searchable_from_sorted place_total place_in xs place (λ k d from below.
      let next : suc k ≡ k + 1 = omega arith in
      subst (λ (n : ℕ). is_lt (place_cmp (get_or xs n d).now.place (get_or xs k d).now.place) ≡ false) next
      (not_less (get_or xs k d).now.place (get_or xs (suc k) d).now.place (adjacent xs k d order (omega (arith, below)))))

  in_take : (xs : List (Bor (Entry T))) (at : ℕ) (x : Entry T) → Contains (take at (shown xs)) x
      → (k : ℕ) × (d : Bor (Entry T)) × (k < at) × ((get_or xs k d).now ≡ x)
  in_take xs zero x there = absurd (none_in_nil x there)
  in_take [] (suc at) x there = absurd (none_in_nil x there)
  in_take (r ∷ xs) (suc at) x there =
      ⊎_elim (λ same. (0, r, omega arith, same)) (λ on. let (k, d, below, is) = in_take xs at x on in (suc k, d, omega (arith, below), is))
      (first_or_later x r.now (take at (shown xs)) there)

  in_drop : (xs : List (Bor (Entry T))) (at : ℕ) (x : Entry T) → Contains (drop at (shown xs)) x
      → (k : ℕ) × (d : Bor (Entry T)) × (at ≤ k) × (k < length xs) × ((get_or xs k d).now ≡ x)
  in_drop [] zero x there = absurd (none_in_nil x there)
  in_drop [] (suc at) x there = absurd (none_in_nil x there)
  in_drop (r ∷ xs) zero x there =
      ⊎_elim (λ same. (0, r, omega arith, omega arith, same))
      (λ on. let (k, d, from, within, is) = in_drop xs zero x on in (suc k, d, omega arith, omega (arith, within), is)) (first_or_later x r.now (shown xs) there)
  in_drop (r ∷ xs) (suc at) x there =
      let (k, d, from, within, is) = in_drop xs at x there in (suc k, d, omega (arith, from), omega (arith, within), is)

  has_place : (xs : List (Bor (Entry T))) (place : Place) (i : ℕ) → i < length xs
      → ((d : Bor (Entry T)) → place_cmp (get_or xs i d).now.place place ≡ Equal) → Contains (entry_places (shown xs)) place
  has_place [] place i within is = absurd (omega (arith, within))
  has_place (r ∷ xs) place zero within is = (0, omega arith, tied_is r.now.place place (is r))
  has_place (r ∷ xs) place (suc i) within is =
      later place r.now.place (entry_places (shown xs)) (has_place xs place i (omega (arith, within)) is)

  module _ (xs : List (Bor (Entry T))) (place : Place) (order : ArePlaced (shown xs)) where
    pub search_found : (r : Result ℕ ℕ) → IsSearchInRange r (length xs)
        → IsBinarySearchResult (λ (y : Bor (Entry T)). place_cmp y.now.place place) xs r → IfOk r (λ _. Contains (entry_places (shown xs)) place)
    search_found (Ok i) within is = has_place xs place i within is
    search_found (Err i) within is = tt

    pub search_free : (r : Result ℕ ℕ) → IsSearchInRange r (length xs)
        → IsBinarySearchResult (λ (y : Bor (Entry T)). place_cmp y.now.place place) xs r → IfErr r (IsGapFor place (shown xs))
    search_free (Ok i) within is = tt
    search_free (Err i) within is = record {
      within = omega (arith, within, length-map xs (λ (y : Bor (Entry T)). y.now));
      front = λ x there.
          let (k, d, below, same) = in_take xs i x there in
          subst (λ (e : Entry T). IsPlaceBefore e.place place) same ((before_is (get_or xs k d).now.place place).0 ((is (rises xs place order)).0 k d (omega arith) below));
      back = λ x there.
          let (k, d, from, below, same) = in_drop xs i x there in
          subst (λ (e : Entry T). IsPlaceBefore place e.place) same (greater_before (get_or xs k d).now.place place ((is (rises xs place order)).1 k d from below));
    }

  -- ---- one that is put in

  inserted : (xs : List (Bor (Entry T))) (at : ℕ) (r : Bor (Entry T)) → shown (take at xs ++ r ∷ drop at xs) ≡ take at (shown xs) ++ r.now ∷ drop at (shown xs)
  inserted xs zero r = refl
  inserted [] (suc at) r = refl
  inserted (x ∷ xs) (suc at) r = ap (λ (l : List (Entry T)). x.now ∷ l) (inserted xs at r)

  inserted_behind : (xs : List (Bor (Entry T))) (passed at n : ℕ) (r : Bor (Entry T)) → n ≡ passed + at → n ≤ length xs
      → drop passed (shown (take n xs ++ r ∷ drop n xs)) ≡ take at (drop passed (shown xs)) ++ r.now ∷ drop at (drop passed (shown xs))
  inserted_behind xs zero at n r is within =
      subst (λ (m : ℕ). shown (take m xs ++ r ∷ drop m xs) ≡ take at (shown xs) ++ r.now ∷ drop at (shown xs)) {x = at} {y = n} (omega (arith, is)) (inserted xs at r)
  inserted_behind xs (suc passed) at zero r is within = absurd (omega (arith, is))
  inserted_behind [] (suc passed) at (suc n) r is within = absurd (omega (arith, within))
  inserted_behind (x ∷ xs) (suc passed) at (suc n) r is within = inserted_behind xs passed at n r (omega (arith, is)) (omega (arith, within))

  pub put_is : (xs : List (Bor (Entry T))) (passed at : ℕ) (r : Bor (Entry T)) → passed + at ≤ length xs
      → drop passed (shown (insert xs (passed + at) r)) ≡ take at (drop passed (shown xs)) ++ r.now ∷ drop at (drop passed (shown xs))
  put_is xs passed at r within = inserted_behind xs passed at (passed + at) r refl within

  around_placed : (front back : List (Entry T)) (e : Entry T) → ArePlaced (front ++ back) → ((x : Entry T) → Contains front x → IsPlaceBefore x.place e.place)
      → ((x : Entry T) → Contains back x → IsPlaceBefore e.place x.place) → ArePlaced (front ++ e ∷ back)
  around_placed [] back e order before after = (
    (λ q there. let (y, among, at) = at_place back q there in subst (λ (p : Place). IsPlaceBefore e.place p) at (after y among)),
    order,
  )
  around_placed (f ∷ front) back e order before after = (
    (λ q there. ⊎_elim (λ same. subst (λ (p : Place). IsPlaceBefore f.place p) same (before f (here f front))) (λ on. order.0 q on) (in_fewer front back e q there)),
    around_placed front back e order.1 (λ x there. before x (later x f front there)) after,
  )

  module _ (entries : List (Entry T)) (at : ℕ) (e : Entry T) where
    whole : take at entries ++ drop at entries ≡ entries
    whole = take-append-drop at entries

    pub gap_placed : ArePlaced entries → IsGapFor e.place entries at → ArePlaced (take at entries ++ e ∷ drop at entries)
    gap_placed order gap = around_placed (take at entries) (drop at entries) e (subst ArePlaced (sym whole) order) gap.front gap.back

    pub gap_has : Contains (take at entries ++ e ∷ drop at entries) e
    gap_has = from_right (take at entries) (e ∷ drop at entries) e (here e (drop at entries))

    pub gap_kept : IsContainedIn entries (take at entries ++ e ∷ drop at entries)
    gap_kept x there = round_middle (take at entries) (drop at entries) e x (subst (λ (l : List (Entry T)). Contains l x) (sym whole) there)

    pub gap_among : IsContainedIn (take at entries ++ e ∷ drop at entries) (e ∷ entries)
    gap_among x there =
        ⊎_elim (λ same. (0, omega arith, same)) (λ on. later x e entries (subst (λ (l : List (Entry T)). Contains l x) whole on))
        (in_middle (take at entries) (drop at entries) e x there)

  -- those that are searched
  pub searched : (items slice : List (Bor (Entry T))) (passed : ℕ) → slice ≡ items
      → shown (take (length slice - passed) (drop passed slice)) ≡ drop passed (shown items)
  searched items slice passed is =
      ap (λ (l : List (Bor (Entry T))). shown (take (length l - passed) (drop passed l))) is ∙ ap (λ (l : List (Bor (Entry T))). shown l) (take_rest items passed)
      ∙ sym (drop-map (λ (r : Bor (Entry T)). r.now) passed items)

  pub gap_fits : (items : List (Bor (Entry T))) (passed at : ℕ) → passed ≤ length items → at ≤ length (drop passed (shown items)) → passed + at ≤ length items
  gap_fits items passed at enough within =
      omega (arith, enough, within, length-drop passed (shown items), length-map items (λ (r : Bor (Entry T)). r.now))

  -- one whose place is there is there
  pub own_there : (entries : List (Entry T)) (e : Entry T) → HaveOwnPlaces (e ∷ entries) → Contains (entry_places entries) e.place → Contains entries e
  own_there entries e own there =
      let (y, among, at) = at_place entries e.place there in
      subst (λ (x : Entry T). Contains entries x) (own y e (later y e entries among) (here e entries) at) among

  -- ---- lists of which each entry has its place

  pub own_placed : (entries : List (Entry T)) → ArePlaced entries → HaveOwnPlaces entries
  own_placed entries order x y one two same = same_place entries x y order one two same

  pub own_fewer : (fewer more : List (Entry T)) → IsContainedIn fewer more → HaveOwnPlaces more → HaveOwnPlaces fewer
  own_fewer fewer more within own x y one two same = own x y (within x one) (within y two) same

  both_within : (xs ys all : List (Entry T)) → IsContainedIn xs all → IsContainedIn ys all → IsContainedIn (xs ++ ys) all
  both_within xs ys all one two x there = ⊎_elim (one x) (two x) (Contains-append xs ys x there)

  -- what is awake of entries in order is in order
  pub awake_in : (Q : Entry T → Type 0) (all rest : List (Entry T)) → AllButThose Q all rest → IsContainedIn rest all
  awake_in Q [] rest is x there = absurd (none_in_nil x (subst (λ (l : List (Entry T)). Contains l x) is there))
  awake_in Q (y ∷ all) rest is x there =
      ⊎_elim
      (λ on. let (others, awake, more, are) = on in
      ⊎_elim (λ same. (0, omega arith, same)) (λ behind. later x y all (awake_in Q all others more x behind)) (first_or_later x y others (subst (λ (l : List (Entry T)). Contains l x) are there)))
      (λ asleep. later x y all (awake_in Q all rest asleep.1 x there)) is

  pub awake_placed : (Q : Entry T → Type 0) (all rest : List (Entry T)) → ArePlaced all → AllButThose Q all rest → ArePlaced rest
  awake_placed Q [] rest order is = subst ArePlaced (sym is) tt
  awake_placed Q (y ∷ all) rest order is =
      ⊎_elim
      (λ on. let (others, awake, more, are) = on in
      subst ArePlaced (sym are) (
        (λ q there. let (z, among, at) = at_place others q there in
            order.0 q (subst (λ (p : Place). Contains (entry_places all) p) at (in_places all z (awake_in Q all others more z among)))),
        awake_placed Q all others order.1 more,
      ))
      (λ asleep. awake_placed Q all rest order.1 asleep.1) is

  -- ---- those that an event wakes

  module _ (event : Event) (entries before some : List (Entry T)) (once : HasNoRepeats (entry_places entries)) (is : IsRousedOf event entries some)
      (within : IsContainedIn before (by_place entries)) where
    some_within : IsContainedIn some (by_place entries)
    some_within x there = by_place_has entries x (is.among x there)

    pub roused_own : HaveOwnPlaces (before ++ some)
    roused_own =
        own_fewer (before ++ some) (by_place entries) (both_within before some (by_place entries) within some_within) (own_placed (by_place entries) (by_place_placed entries once))

    module _ (after : List (Entry T)) (among : IsContainedIn after (before ++ some)) where
      pub roused_among : IsContainedIn after (by_place entries)
      roused_among x there = both_within before some (by_place entries) within some_within x (among x there)

      pub roused_in_order : IsContainedIn some after → IsContainedIn before after → Rouses event (by_place entries) before after
      roused_in_order has kept = record {
        kept = kept;
        among = roused_among;
        roused = λ x there. ⊎_elim (λ on. inl (has x on)) (λ leaves. inr leaves) (is.roused x (by_place_in entries x there));
      }

  -- ---- the first, and those behind it

  next_at : (xs : List (Bor (Entry T))) (passed : ℕ) → (IsNone (slice_get xs passed) → drop passed (shown xs) ≡ []) × (drop passed (shown xs) ≡ [] → IsNone (slice_get xs passed))
  next_at [] zero = ((λ _. refl), (λ _. refl))
  next_at [] (suc passed) = ((λ _. refl), (λ _. refl))
  next_at (x ∷ xs) zero = ((λ none. absurd (true≢false none)), (λ none. absurd (omega (arith, ap length none))))
  next_at (x ∷ xs) (suc passed) = next_at xs passed

  pub next_none : (xs : List (Bor (Entry T))) (passed : ℕ) (r : Option (Bor (Entry T))) → r ≡ slice_get xs passed
      → (IsNone r → drop passed (shown xs) ≡ []) × (drop passed (shown xs) ≡ [] → IsNone r)
  next_none xs passed r is =
      subst (λ (o : Option (Bor (Entry T))). (IsNone o → drop passed (shown xs) ≡ []) × (drop passed (shown xs) ≡ [] → IsNone o)) (sym is) (next_at xs passed)

  first_at : (xs : List (Bor (Entry T))) (passed : ℕ) → IfSome (slice_get xs passed) (λ entry. drop passed (shown xs) ≡ entry.now ∷ drop 1 (drop passed (shown xs)))
  first_at [] zero = tt
  first_at [] (suc passed) = tt
  first_at (x ∷ xs) zero = refl
  first_at (x ∷ xs) (suc passed) = first_at xs passed

  pub next_some : (xs : List (Bor (Entry T))) (passed : ℕ) (r : Option (Bor (Entry T))) → r ≡ slice_get xs passed
      → IfSome r (λ entry. drop passed (shown xs) ≡ entry.now ∷ drop 1 (drop passed (shown xs)))
  next_some xs passed r is =
      subst (λ (o : Option (Bor (Entry T))). IfSome o (λ entry. drop passed (shown xs) ≡ entry.now ∷ drop 1 (drop passed (shown xs)))) (sym is) (first_at xs passed)

  pub pass_one : (xs : List (Bor (Entry T))) (passed : ℕ) → drop (passed + 1) (shown xs) ≡ drop 1 (drop passed (shown xs))
  pass_one xs passed = subst (λ (n : ℕ). drop n (shown xs) ≡ drop 1 (drop passed (shown xs))) {x = suc passed} {y = passed + 1} (omega arith) (by xs passed)
    where
      by : (ys : List (Bor (Entry T))) (n : ℕ) → drop (suc n) (shown ys) ≡ drop 1 (drop n (shown ys))
      by ys zero = refl
      by [] (suc n) = refl
      by (y ∷ ys) (suc n) = by ys n

  pub pass_none : (xs : List (Bor (Entry T))) (passed : ℕ) → length xs ≤ passed → drop passed (shown xs) ≡ drop 1 (drop passed (shown xs))
  pass_none [] zero all = refl
  pass_none [] (suc passed) all = refl
  pass_none (x ∷ xs) zero all = absurd (omega (arith, all))
  pass_none (x ∷ xs) (suc passed) all = pass_none xs passed (omega (arith, all))

  pub rest_placed : (entries : List (Entry T)) → ArePlaced entries → ArePlaced (drop 1 entries)
  rest_placed [] order = tt
  rest_placed (x ∷ entries) order = order.1

  -- ---- some that are put in one after another

  -- so many of them were put in after others
  pub record PutSome (old : List (Entry T)) (xs : List (Bor (Entry T))) (count : ℕ) (new : List (Entry T)) : Type 0 where
    pub has : IsContainedIn (shown (take count xs)) new
    pub kept : IsContainedIn old new
    pub among : IsContainedIn new (old ++ shown xs)

  pub put_none : (old : List (Entry T)) (xs : List (Bor (Entry T))) → PutSome old xs 0 old
  put_none old xs = record {
    has = λ x there. absurd (none_in_nil x there);
    kept = λ x there. there;
    among = λ x there. from_left old (shown xs) x there;
  }

  item_there : (xs : List (Bor (Entry T))) (i : ℕ) (r : Bor (Entry T)) → i < length xs → r ≡ get_or xs i r → Contains (shown xs) r.now
  item_there [] i r within read = absurd (omega (arith, within))
  item_there (x ∷ xs) zero r within read = (0, omega arith, ap (λ (y : Bor (Entry T)). y.now) (sym read))
  item_there (x ∷ xs) (suc i) r within read = later r.now x.now (shown xs) (item_there xs i r (omega (arith, within)) read)

  module _ (old : List (Entry T)) (xs : List (Bor (Entry T))) (i : ℕ) (r : Bor (Entry T)) (within : i < length xs) (read : r ≡ get_or xs i r)
      (now : List (Entry T)) (is : PutSome old xs i now) where
    one_in : IsContainedIn (r.now ∷ now) (old ++ shown xs)
    one_in x there =
        ⊎_elim (λ same. subst (λ (e : Entry T). Contains (old ++ shown xs) e) same (from_right old (shown xs) r.now (item_there xs i r within read))) (λ on. is.among x on)
        (first_or_later x r.now now there)

    pub put_own : HaveOwnPlaces (old ++ shown xs) → HaveOwnPlaces (r.now ∷ now)
    put_own own = own_fewer (r.now ∷ now) (old ++ shown xs) one_in own

    module _ (more : List (Entry T)) (kept : IsContainedIn now more) (among : IsContainedIn more (r.now ∷ now)) where
      pub put_kept : IsContainedIn old more
      put_kept x there = kept x (is.kept x there)

      pub put_among : IsContainedIn more (old ++ shown xs)
      put_among x there = one_in x (among x there)

      pub put_more : Contains more r.now → PutSome old xs (i + 1) more
      put_more has = record {
        has = λ x there. ⊎_elim (λ on. kept x (is.has x on)) (λ same. subst (λ (e : Entry T). Contains more e) same has)
            (Contains-push_cases (shown (take i xs)) r.now x
            (subst (λ (l : List (Entry T)). Contains l x) (ap (λ (l : List (Bor (Entry T))). shown l) (one_more xs i r within read) ∙ shown_put (take i xs) r) there));
        kept = put_kept;
        among = put_among;
      }

  pub put_all : (old : List (Entry T)) (xs : List (Bor (Entry T))) (count : ℕ) (new : List (Entry T)) → length xs ≤ count → PutSome old xs count new → IsContainedIn (shown xs) new
  put_all old xs count new enough is x there =
      is.has x (subst (λ (l : List (Bor (Entry T))). Contains (shown l) x) (sym (take_all count xs enough)) there)
