-- Entries in groups.
use Rattle.sleepers.proofs.Vocabulary.{◌≡◌, ℕ, zero, suc, ◌<◌, List, [], ◌∷◌, ◌++◌, Contains, Option, None, Some, ◌⊎◌, inl, inr, ⊎_elim, refl, sym, ap, subst, ◌∙◌, arith, length, append_assoc, set}
use Rattle.sleepers.proofs.Vocabulary.{AllByRecursion, Split, items, here, later, first_or_later, none_in_nil, Contains-append, AllByRecursion-contains, HasNoRepeats, Event, IsAllBut, IsAsleep}
use Rattle.sleepers.proofs.Vocabulary.{entry_places, AreAwake, AreRewound, HasIn, IsWalk, OthersStay, StandsAwake, StayGroups, WakeAlike, ahead_of, by_place, entries_at, entries_of, group_at, held}
use Rattle.sleepers.proofs.Vocabulary.{Entry}
use Rattle.sleepers.proofs.EntryLemmas.{in_places}
use Rattle.sleepers.proofs.PlaceListLemmas.{by_place_has, by_place_in}
use Rattle.sleepers.proofs.StepLemmas.{apart_once, from_left, from_right}

module _ {X : Type 0} where
  once_front : (xs ys : List X) → HasNoRepeats (xs ++ ys) → HasNoRepeats xs
  once_front [] ys once = tt
  once_front (x ∷ xs) ys once = ((λ there. once.0 (from_left xs ys x there)), once_front xs ys once.1)

  once_back : (xs ys : List X) → HasNoRepeats (xs ++ ys) → HasNoRepeats ys
  once_back [] ys once = once
  once_back (x ∷ xs) ys once = once_back xs ys once.1

  once_apart : (xs ys : List X) (x : X) → HasNoRepeats (xs ++ ys) → Contains xs x → Contains ys x → ⊥
  once_apart [] ys x once front back = none_in_nil x front
  once_apart (z ∷ xs) ys x once front back =
      ⊎_elim (λ same. once.0 (from_right xs ys z (subst (λ (w : X). Contains ys w) (sym same) back))) (λ on. once_apart xs ys x once.1 on back) (first_or_later x z xs front)

module _ {T : Type 0} where
  abbrev pub nothing : Split (Entry T)
  nothing = record { before = []; after = [] }

  -- ---- one group among all

  pub held_has : (groups : List (Split (Entry T))) (number : ℕ) (x : Entry T) → Contains (entries_at groups number) x → Contains (held groups) x
  held_has [] number x there = absurd (none_in_nil x there)
  held_has (g ∷ groups) zero x there = from_left (items g) (held groups) x there
  held_has (g ∷ groups) (suc number) x there = from_right (items g) (held groups) x (held_has groups number x there)

  pub within_at : (groups : List (Split (Entry T))) (number : ℕ) (x : Entry T) → Contains (entries_at groups number) x → number < length groups
  within_at [] number x there = absurd (none_in_nil x there)
  within_at (g ∷ groups) zero x there = omega arith
  within_at (g ∷ groups) (suc number) x there = let within = within_at groups number x there in omega (arith, within)

  pub held_in : (groups : List (Split (Entry T))) (x : Entry T) → Contains (held groups) x → (number : ℕ) × Contains (entries_at groups number) x
  held_in [] x there = absurd (none_in_nil x there)
  held_in (g ∷ groups) x there =
      ⊎_elim (λ front. (0, front)) (λ back. let on = held_in groups x back in (suc on.0, on.1)) (Contains-append (items g) (held groups) x there)

  once_at : (groups : List (Split (Entry T))) (number : ℕ) → HasNoRepeats (held groups) → HasNoRepeats (entries_at groups number)
  once_at [] number once = tt
  once_at (g ∷ groups) zero once = once_front (items g) (held groups) once
  once_at (g ∷ groups) (suc number) once = once_at groups number (once_back (items g) (held groups) once)

  apart_at : (groups : List (Split (Entry T))) (m n : ℕ) (x : Entry T) → HasNoRepeats (held groups) → (m ≡ n → ⊥)
      → Contains (entries_at groups m) x → Contains (entries_at groups n) x → ⊥
  apart_at [] m n x once other one two = none_in_nil x one
  apart_at (g ∷ groups) zero zero x once other one two = other refl
  apart_at (g ∷ groups) zero (suc n) x once other one two = once_apart (items g) (held groups) x once one (held_has groups n x two)
  apart_at (g ∷ groups) (suc m) zero x once other one two = once_apart (items g) (held groups) x once two (held_has groups m x one)
  apart_at (g ∷ groups) (suc m) (suc n) x once other one two =
      apart_at groups m n x (once_back (items g) (held groups) once) (λ same. other (ap suc same)) one two

  -- ---- a group that changes

  pub at_set : (groups : List (Split (Entry T))) (number : ℕ) (s : Split (Entry T)) → number < length groups → group_at (set groups number s) number ≡ s
  at_set [] number s within = absurd (omega (arith, within))
  at_set (g ∷ groups) zero s within = refl
  at_set (g ∷ groups) (suc number) s within = at_set groups number s (omega (arith, within))

  pub held_set : (groups : List (Split (Entry T))) (number : ℕ) (s : Split (Entry T)) → items s ≡ entries_at groups number → held (set groups number s) ≡ held groups
  held_set [] number s same = refl
  held_set (g ∷ groups) zero s same = ap (λ (l : List (Entry T)). l ++ held groups) same
  held_set (g ∷ groups) (suc number) s same = ap (λ (l : List (Entry T)). items g ++ l) (held_set groups number s same)

  in_front : (x : Entry T) (fewer more back : List (Entry T)) → HasIn x fewer more → HasIn x (fewer ++ back) (more ++ back)
  in_front x fewer more back one = record {
    front = one.front;
    back = one.back ++ back;
    fewer_is = ap (λ (l : List (Entry T)). l ++ back) one.fewer_is ∙ append_assoc one.front one.back back;
    more_is = ap (λ (l : List (Entry T)). l ++ back) one.more_is ∙ append_assoc one.front (x ∷ one.back) back;
  }

  in_back : (x : Entry T) (front fewer more : List (Entry T)) → HasIn x fewer more → HasIn x (front ++ fewer) (front ++ more)
  in_back x front fewer more one = record {
    front = front ++ one.front;
    back = one.back;
    fewer_is = ap (λ (l : List (Entry T)). front ++ l) one.fewer_is ∙ sym (append_assoc front one.front one.back);
    more_is = ap (λ (l : List (Entry T)). front ++ l) one.more_is ∙ sym (append_assoc front one.front (x ∷ one.back));
  }

  pub held_more : (groups : List (Split (Entry T))) (number : ℕ) (s : Split (Entry T)) (x : Entry T) → number < length groups
      → HasIn x (entries_at groups number) (items s) → HasIn x (held groups) (held (set groups number s))
  held_more [] number s x within one = absurd (omega (arith, within))
  held_more (g ∷ groups) zero s x within one = in_front x (items g) (items s) (held groups) one
  held_more (g ∷ groups) (suc number) s x within one =
      in_back x (items g) (held groups) (held (set groups number s)) (held_more groups number s x (omega (arith, within)) one)

  pub held_fewer : (groups : List (Split (Entry T))) (number : ℕ) (s : Split (Entry T)) (x : Entry T) → number < length groups
      → HasIn x (items s) (entries_at groups number) → HasIn x (held (set groups number s)) (held groups)
  held_fewer [] number s x within one = absurd (omega (arith, within))
  held_fewer (g ∷ groups) zero s x within one = in_front x (items s) (items g) (held groups) one
  held_fewer (g ∷ groups) (suc number) s x within one =
      in_back x (items g) (held (set groups number s)) (held groups) (held_fewer groups number s x (omega (arith, within)) one)

  -- a group without entries more
  pub fresh_at : (groups : List (Split (Entry T))) (number : ℕ) → group_at (groups ++ nothing ∷ []) number ≡ group_at groups number
  fresh_at [] zero = refl
  fresh_at [] (suc number) = refl
  fresh_at (g ∷ groups) zero = refl
  fresh_at (g ∷ groups) (suc number) = fresh_at groups number

  pub fresh_held : (groups : List (Split (Entry T))) → held (groups ++ nothing ∷ []) ≡ held groups
  fresh_held [] = refl
  fresh_held (g ∷ groups) = ap (λ (l : List (Entry T)). items g ++ l) (fresh_held groups)

  -- ---- some groups

  pub of_in : (groups : List (Split (Entry T))) (numbers : List ℕ) (x : Entry T) → Contains (entries_of groups numbers) x
      → (number : ℕ) × Contains numbers number × Contains (entries_at groups number) x
  of_in groups [] x there = absurd (none_in_nil x there)
  of_in groups (n ∷ numbers) x there =
      ⊎_elim (λ front. (n, here n numbers, front)) (λ back. let on = of_in groups numbers x back in (on.0, later on.0 n numbers on.1, on.2))
      (Contains-append (entries_at groups n) (entries_of groups numbers) x there)

  pub of_has : (groups : List (Split (Entry T))) (numbers : List ℕ) (number : ℕ) (x : Entry T) → Contains numbers number
      → Contains (entries_at groups number) x → Contains (entries_of groups numbers) x
  of_has groups [] number x among there = absurd (none_in_nil number among)
  of_has groups (n ∷ numbers) number x among there =
      ⊎_elim (λ same. from_left (entries_at groups n) (entries_of groups numbers) x (subst (λ (m : ℕ). Contains (entries_at groups m) x) (sym same) there))
      (λ on. from_right (entries_at groups n) (entries_of groups numbers) x (of_has groups numbers number x on there)) (first_or_later number n numbers among)

  pub of_once : (groups : List (Split (Entry T))) (numbers : List ℕ) → HasNoRepeats (held groups) → HasNoRepeats numbers → HasNoRepeats (entries_of groups numbers)
  of_once groups [] once apart = tt
  of_once groups (n ∷ numbers) once apart =
      apart_once (entries_at groups n) (entries_of groups numbers) (once_at groups n once) (of_once groups numbers once apart.1) (λ x front back.
      let on = of_in groups numbers x back in
      apart_at groups n on.0 x once (λ same. apart.0 (subst (λ (m : ℕ). Contains numbers m) (sym same) on.1)) front on.2)

  -- ---- places

  pub placed_once : (xs : List (Entry T)) → HasNoRepeats (entry_places xs) → HasNoRepeats xs
  placed_once [] once = tt
  placed_once (x ∷ xs) once = ((λ there. once.0 (in_places xs x there)), placed_once xs once.1)

  -- ---- a walk

  pub rewound_ahead : (numbers : List ℕ) (old new : List (Split (Entry T)))
      → AllByRecursion (λ number. (group_at new number).after ≡ entries_at old number) numbers → ahead_of new numbers ≡ entries_of old numbers
  rewound_ahead [] old new after = refl
  rewound_ahead (n ∷ numbers) old new after =
      let first = after.0 in
      let rest = rewound_ahead numbers old new after.1 in
      λ i. first i ++ rest i

  pub ahead_stay : (number : ℕ) (numbers : List ℕ) (old new : List (Split (Entry T))) → OthersStay number old new
      → (Contains numbers number → ⊥) → ahead_of new numbers ≡ ahead_of old numbers
  ahead_stay number [] old new others apart = refl
  ahead_stay number (n ∷ numbers) old new others apart =
      let first = ap (λ (s : Split (Entry T)). s.after) (others n (λ same. apart (0, omega arith, same))) in
      let rest = ahead_stay number numbers old new others (λ there. apart (later number n numbers there)) in
      λ i. first i ++ rest i

  pub ahead_same : (numbers : List ℕ) (old new : List (Split (Entry T))) → StayGroups old new → ahead_of new numbers ≡ ahead_of old numbers
  ahead_same [] old new stay = refl
  ahead_same (n ∷ numbers) old new stay =
      let first = ap (λ (s : Split (Entry T)). s.after) (stay.each n) in
      let rest = ahead_same numbers old new stay in
      λ i. first i ++ rest i

  some_stay : (number : ℕ) (numbers : List ℕ) (old new : List (Split (Entry T))) → OthersStay number old new
      → (Contains numbers number → ⊥) → AllByRecursion (λ n. (group_at old n).after ≡ [] → ⊥) numbers
      → AllByRecursion (λ n. (group_at new n).after ≡ [] → ⊥) numbers
  some_stay number [] old new others apart some = tt
  some_stay number (n ∷ numbers) old new others apart some = (
    (λ none. some.0 (sym (ap (λ (s : Split (Entry T)). s.after) (others n (λ same. apart (0, omega arith, same)))) ∙ none)),
    some_stay number numbers old new others (λ there. apart (later number n numbers there)) some.1,
  )

  -- after a change of the first group of a walk the others go on
  pub walk_rest : (number : ℕ) (numbers : List ℕ) (old new : List (Split (Entry T))) → OthersStay number old new
      → IsWalk old (number ∷ numbers) → IsWalk new numbers
  walk_rest number numbers old new others walk =
      record { once = walk.once.1; some = some_stay number numbers old new others walk.once.0 walk.some.1 }

  pub walk_on : (number : ℕ) (numbers : List ℕ) (old new : List (Split (Entry T))) → OthersStay number old new
      → IsWalk old (number ∷ numbers) → ((group_at new number).after ≡ [] → ⊥) → IsWalk new (number ∷ numbers)
  walk_on number numbers old new others walk some =
      record { once = walk.once; some = (some, some_stay number numbers old new others walk.once.0 walk.some.1) }

  pub walk_ahead : (number : ℕ) (numbers : List ℕ) (old new : List (Split (Entry T))) → OthersStay number old new
      → IsWalk old (number ∷ numbers) → ahead_of new numbers ≡ ahead_of old numbers
  walk_ahead number numbers old new others walk = ahead_stay number numbers old new others walk.once.0

  -- a walk that begins
  pub begun_walk : (events : List Event) (time : ℕ) (numbers : List ℕ) (old new : List (Split (Entry T))) → AreAwake events time old numbers
      → AreRewound numbers old new → IsWalk new numbers
  begun_walk events time numbers old new awake rewound =
      record { once = awake.once; some = each numbers awake.awake rewound.after }
    where
      each : (ns : List ℕ) → AllByRecursion (StandsAwake events time old) ns → AllByRecursion (λ n. (group_at new n).after ≡ entries_at old n) ns
          → AllByRecursion (λ n. (group_at new n).after ≡ [] → ⊥) ns
      each [] awake after = tt
      each (n ∷ ns) awake after =
          let first = awake.0 in ((λ none. first.some (sym after.0 ∙ none)), each ns awake.1 after.1)

  -- ---- what a step wakes

  module _ (events : List Event) (time : ℕ) (groups : List (Split (Entry T))) (numbers : List ℕ)
      (awake : AreAwake events time groups numbers) where
    pub woken_without : (x : Entry T) → Contains (entries_of groups numbers) x
        → Contains (by_place (held groups)) x × (IsAsleep events time x → ⊥)
    woken_without x there =
        let on = of_in groups numbers x there in
        let stands = AllByRecursion-contains (StandsAwake events time groups) numbers on.0 awake.awake on.1 in (
          by_place_has (held groups) x (held_has groups on.0 x on.2),
          stands.none x on.2,
        )

    pub woken_others : (x : Entry T) → Contains (by_place (held groups)) x → Contains (entries_of groups numbers) x ⊎ IsAsleep events time x
    woken_others x there =
        let on = held_in groups x (by_place_in (held groups) x there) in
        ⊎_elim (λ among. inl (of_has groups numbers on.0 x among on.1)) (λ asleep. inr asleep) (awake.others on.0 x on.1)

    pub woken_all : HasNoRepeats (entry_places (held groups)) → IsAllBut (IsAsleep events time) (by_place (held groups)) (entries_of groups numbers)
    woken_all once = record {
      once = of_once groups numbers (placed_once (held groups) once) awake.once;
      without = woken_without;
      others = woken_others;
    }

  -- ---- entries that are noted

  pub alike_on : (x y z : Entry T) → WakeAlike x y → WakeAlike y z → WakeAlike x z
  alike_on x y z a b = record {
    patterns = a.patterns ∙ b.patterns;
    end = ⊎_elim (λ none. inl none) (λ e. ⊎_elim (λ none. inl (a.patterns ∙ none)) (λ f. inr (e ∙ f)) b.end) a.end;
  }

  pub alike_back : (x y : Entry T) → WakeAlike x y → WakeAlike y x
  alike_back x y a = record {
    patterns = sym a.patterns;
    end = ⊎_elim (λ none. inl (sym a.patterns ∙ none)) (λ e. inr (sym e)) a.end;
  }

  pub alike_itself : (x : Entry T) → WakeAlike x x
  alike_itself x = record { patterns = refl; end = inr refl }

  -- one that wakes at the same steps sleeps at the same steps
  pub asleep_alike : (events : List Event) (time : ℕ) (x y : Entry T) → WakeAlike x y → IsAsleep events time x → IsAsleep events time y
  asleep_alike events time x y alike asleep = record {
    patterns = asleep.patterns;
    waits = sym alike.patterns ∙ asleep.waits;
    none = asleep.none;
    in_time = ⊎_elim (λ none. absurd (not_both x.patterns none asleep.waits)) (λ e. subst (λ (n : ℕ). time < n) e asleep.in_time) alike.end;
  }
    where
      not_both : {Y : Type 0} {p : Y} (o : Option Y) → o ≡ None → o ≡ Some p → ⊥
      not_both o none some = cc
