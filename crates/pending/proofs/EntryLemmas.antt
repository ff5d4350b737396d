-- Pending instances as entries.
use Rattle.pending.proofs.Vocabulary.{◌≡◌, ℕ, suc, ◌+◌, ◌<◌, List, [], ◌∷◌, ◌++◌, Contains, ⊎_elim, refl, sym, ap, subst, ◌∙◌, arith, get_or, length, map, AllByRecursion, sum_by-append, map-append}
use Rattle.pending.proofs.Vocabulary.{AllByRecursion-append, AllByRecursion-of_append, first_or_later, here, later, none_in_nil, Plan, ArePlaced, HasOneMoreEntry, IsFreePlace, entry_places}
use Rattle.pending.proofs.Vocabulary.{fewer_placed, IsPlaceBefore, Place, places_from, beginning_at, PutsInEntries, TakesOutEntries, Entry, count_due, Instance, wake_patterns_of, ArePendingEntries}
use Rattle.pending.proofs.Vocabulary.{FitsStep, entries_from, entry_at, items_of, all_listed, listed_instances, IsWaitOf, patterns_at, until_at, early_until, open_until, Bool, true, false, cond}
use Rattle.pending.proofs.Vocabulary.{nat_lt, inl, inr, early_patterns_of}

-- ---- what an entry waits for that is filed at a time

pub filed_waits : (plans : List Plan) (time : ℕ) (i : Instance) → IsWaitOf plans (record { patterns = patterns_at plans time i; until = until_at time i }) i
filed_waits plans time i = by (nat_lt time i.low)
  where
    by : (early : Bool) → IsWaitOf plans (record {
      patterns = cond early (early_patterns_of plans i) (wake_patterns_of plans i);
      until = cond early (early_until i) (open_until i);
    }) i
    by true = inr refl
    by false = inl refl

pub listed_items : (all : List (Entry Instance)) → listed_instances (all_listed all) ≡ items_of all
listed_items [] = refl
listed_items (e ∷ all) = ap (λ l. e.item ∷ l) (listed_items all)

-- ---- entries that go on from a place

module _ (plans : List Plan) (time : ℕ) (place : Place) (number : ℕ) where
  -- one more
  pub entries_more : (k : ℕ) (xs : List Instance) (x : Instance) (n : ℕ) → n ≡ k + length xs
      → entries_from plans time place number k (xs ++ x ∷ []) ≡ entries_from plans time place number k xs ++ entry_at plans time (place ++ beginning_at number n ∷ []) x ∷ []
  entries_more k [] x n is = let same : k ≡ n = omega (arith, is) in ap (λ m. entry_at plans time (place ++ beginning_at number m ∷ []) x ∷ []) same
  entries_more k (z ∷ xs) x n is =
      let on : n ≡ suc k + length xs = omega (arith, is) in
      ap (λ l. entry_at plans time (place ++ beginning_at number k ∷ []) z ∷ l) (entries_more (suc k) xs x n on)

  pub none_from : (k : ℕ) (xs : List Instance) → length xs ≡ 0 → entries_from plans time place number k xs ≡ []
  none_from k [] none = refl
  none_from k (x ∷ xs) none = absurd (omega (arith, none))

  pub entries_items : (k : ℕ) (xs : List Instance) → items_of (entries_from plans time place number k xs) ≡ xs
  entries_items k [] = refl
  entries_items k (x ∷ xs) = ap (λ l. x ∷ l) (entries_items (suc k) xs)

  pub entries_wait : (k : ℕ) (xs : List Instance) → AllByRecursion (λ x. IsWaitOf plans x.wait x.instance) (all_listed (entries_from plans time place number k xs))
  entries_wait k [] = tt
  entries_wait k (x ∷ xs) = (filed_waits plans time x, entries_wait (suc k) xs)

  pub entries_places : (k : ℕ) (xs : List Instance)
      → entry_places (entries_from plans time place number k xs) ≡ places_from place number k (length (entries_from plans time place number k xs))
  entries_places k [] = refl
  entries_places k (x ∷ xs) = ap (λ l. (place ++ beginning_at number k ∷ []) ∷ l) (entries_places (suc k) xs)

-- ---- one entry more

pub items_append : (xs ys : List (Entry Instance)) → items_of (xs ++ ys) ≡ items_of xs ++ items_of ys
items_append xs ys = map-append (λ e. e.item) xs ys

count_append : (plans : List Plan) (xs ys : List (Entry Instance)) (d : ℕ)
    → count_due plans (items_of (xs ++ ys)) d ≡ count_due plans (items_of xs) d + count_due plans (items_of ys) d
count_append plans xs ys d = ap (λ l. count_due plans l d) (items_append xs ys) ∙ sum_by-append _ (items_of xs) (items_of ys)

pub count_more : (plans : List Plan) (x : Entry Instance) (fewer more : List (Entry Instance)) → HasOneMoreEntry x fewer more → (d : ℕ)
    → count_due plans (items_of more) d ≡ count_due plans (items_of fewer) d + count_due plans (x.item ∷ []) d
count_more plans x fewer more one d =
    let a = ap (λ l. count_due plans (items_of l) d) one.more_is in
    let b = ap (λ l. count_due plans (items_of l) d) one.fewer_is in
    let f = count_append plans one.front (x ∷ one.back) d in
    let g = count_append plans one.front one.back d in
    let h = count_append plans (x ∷ []) one.back d in
    omega (arith, a, b, f, g, h)

pub fewer_kept : (steps : ℕ) (x : Entry Instance) (fewer more : List (Entry Instance)) → HasOneMoreEntry x fewer more → ArePendingEntries steps more → ArePendingEntries steps fewer
fewer_kept steps x fewer more one kept =
    let parts = AllByRecursion-of_append (FitsStep steps) one.front (x ∷ one.back) (subst (AllByRecursion (FitsStep steps)) one.more_is kept.fit) in
    record {
      placed = fewer_placed x fewer more one;
      fit = subst (AllByRecursion (FitsStep steps)) (sym one.fewer_is) (AllByRecursion-append (FitsStep steps) one.front one.back parts.0 parts.1.1);
    }

pub more_kept : (steps : ℕ) (x : Entry Instance) (fewer more : List (Entry Instance)) → HasOneMoreEntry x fewer more → ArePendingEntries steps fewer → FitsStep steps x → ArePendingEntries steps more
more_kept steps x fewer more one kept fits =
    let parts = AllByRecursion-of_append (FitsStep steps) one.front one.back (subst (AllByRecursion (FitsStep steps)) one.fewer_is kept.fit) in
    record {
      placed = one.placed;
      fit = subst (AllByRecursion (FitsStep steps)) (sym one.more_is) (AllByRecursion-append (FitsStep steps) one.front (x ∷ one.back) parts.0 (fits, parts.1));
    }

-- ---- one after another

pub takes_append : (xs ys all mid left : List (Entry Instance)) → TakesOutEntries xs all mid → TakesOutEntries ys mid left → TakesOutEntries (xs ++ ys) all left
takes_append [] ys all mid left one two = subst (λ (l : List (Entry Instance)). TakesOutEntries ys l left) one two
takes_append (x ∷ xs) ys all mid left one two = (one.0, one.1, takes_append xs ys one.0 mid left one.2 two)

pub puts_none : (more all : List (Entry Instance)) → length more ≡ 0 → PutsInEntries more all all
puts_none [] all none = refl
puts_none (x ∷ more) all none = absurd (omega (arith, none))

pub puts_more : (xs : List (Entry Instance)) (x : Entry Instance) (all mid grown : List (Entry Instance)) → PutsInEntries xs all mid → HasOneMoreEntry x mid grown
    → PutsInEntries (xs ++ x ∷ []) all grown
puts_more [] x all mid grown one more = (grown, subst (λ (l : List (Entry Instance)). HasOneMoreEntry x l grown) one more, refl)
puts_more (z ∷ xs) x all mid grown one more = (one.0, one.1, puts_more xs x one.0 mid grown one.2 more)

-- ---- entries that are put in at the first beginning, from the last to the first

module _ (plans : List Plan) (time : ℕ) where
  -- none of them comes at an earlier place
  pub free_below : (j k : ℕ) (xs : List Instance) → j < k → IsFreePlace (beginning_at 0 j ∷ []) (entries_from plans time [] 0 k xs)
  free_below j k [] less there = none_in_nil (beginning_at 0 j ∷ []) there
  free_below j k (x ∷ xs) less there =
      ⊎_elim (λ same. let at = ap (λ (p : Place). (get_or p 0 (beginning_at 0 j)).among) same in omega (arith, at, less)) (free_below j (suc k) xs (omega (arith, less)))
      (first_or_later (beginning_at 0 j ∷ []) (beginning_at 0 k ∷ []) (entry_places (entries_from plans time [] 0 (suc k) xs)) there)

  at_middle : (front back : List (Entry Instance)) (e : Entry Instance) → Contains (entry_places (front ++ e ∷ back)) e.place
  at_middle [] back e = here e.place (entry_places back)
  at_middle (f ∷ front) back e = later e.place f.place (entry_places (front ++ e ∷ back)) (at_middle front back e)

  -- what comes at an earlier place is the first
  pub put_first : (n : ℕ) (x : Instance) (xs : List Instance) (fewer more : List (Entry Instance)) → fewer ≡ entries_from plans time [] 0 (suc n) xs
      → HasOneMoreEntry (entry_at plans time (beginning_at 0 n ∷ []) x) fewer more → more ≡ entries_from plans time [] 0 n (x ∷ xs)
  put_first n x xs fewer more is one = one.more_is ∙ by one.front xs (sym is ∙ one.fewer_is) (subst ArePlaced one.more_is one.placed)
    where
      entry : Entry Instance
      entry = entry_at plans time (beginning_at 0 n ∷ []) x

      by : (front : List (Entry Instance)) (ys : List Instance) → entries_from plans time [] 0 (suc n) ys ≡ front ++ one.back → ArePlaced (front ++ entry ∷ one.back)
          → front ++ entry ∷ one.back ≡ entries_from plans time [] 0 n (x ∷ ys)
      by [] ys are placed = ap (λ l. entry ∷ l) (sym are)
      by (f ∷ front) [] are placed = absurd (omega (arith, ap length are))
      by (f ∷ front) (y ∷ ys) are placed =
          let first : beginning_at 0 (suc n) ∷ [] ≡ f.place = ap (λ l. (get_or l 0 f).place) are in
          let before : IsPlaceBefore (beginning_at 0 (suc n) ∷ []) (beginning_at 0 n ∷ []) = subst (λ p. IsPlaceBefore p (beginning_at 0 n ∷ [])) (sym first)
          (placed.0 (beginning_at 0 n ∷ []) (at_middle front one.back entry)) in
          absurd (⊎_elim (λ b. ⊎_elim (λ less. omega (arith, less)) (λ both. let less = both.1 in omega (arith, less)) b) (λ both. both.1) before)
