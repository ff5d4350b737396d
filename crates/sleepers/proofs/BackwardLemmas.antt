-- A walk over groups from the last to the first.
use Rattle.sleepers.proofs.Vocabulary.{◌≡◌, true, false, ℕ, ◌+◌, ◌-◌, ◌<◌, List, [], ◌∷◌, ◌++◌, Contains, Option, None, Some, IsSome, inl, inr, ⊎_elim, sym, ap, subst, ◌∙◌, arith, append-nil, drop}
use Rattle.sleepers.proofs.Vocabulary.{length, reverse, slice_get, take, AllByRecursion, option_to_list, reverse-append, take_more, Contains-permutation, IsPermutation-reverse, IsPermutation-sym}
use Rattle.sleepers.proofs.Vocabulary.{get_or_from_slice_get, slice_get_within, Split, AllByRecursion-contains, AllByRecursion-from_contains, HasNoRepeats-push, HasNoRepeats, Event, AreAwake}
use Rattle.sleepers.proofs.Vocabulary.{AreRewound, StandsAwake, entries_at, group_at, Entry}
use Rattle.std.proofs.Common.{take_all}

-- what `last` tells
pub last_front : (seen numbers : List ℕ) (n : ℕ) → seen ≡ numbers → slice_get seen (length seen - 1) ≡ Some n
    → reverse numbers ≡ n ∷ drop 1 (reverse numbers)
last_front seen numbers n same is =
    let at = length seen - 1 in
    let front = take at seen in
    let within = slice_get_within seen at n is in
    let whole : seen ≡ front ++ n ∷ [] =
    sym (take_all (at + 1) seen (omega arith)) ∙ take_more seen at n within ∙ ap (λ k. front ++ k ∷ []) (get_or_from_slice_get seen at n n is)
    in
    let turned = ap reverse (sym same ∙ whole) ∙ reverse-append front (n ∷ []) in
    turned ∙ ap (λ l. n ∷ drop 1 l) (sym turned)

-- what is left where the last is let go of
pub popped_walk : (old new : List ℕ) (r : Option ℕ) → old ≡ new ++ option_to_list r → (0 < length old → IsSome r) → reverse new ≡ drop 1 (reverse old)
popped_walk old new (Some n) is some = sym (ap (λ (l : List ℕ). drop 1 (reverse l)) is ∙ ap (λ (l : List ℕ). drop 1 l) (reverse-append new (n ∷ [])))
popped_walk [] new None is some = sym (ap reverse (is ∙ append-nil new))
popped_walk (m ∷ old) new None is some = absurd (not_some (some (omega arith)))
  where
    not_some : false ≡ true → ⊥
    not_some e = cc

-- ---- the same of all

back_has : (numbers : List ℕ) (n : ℕ) → Contains numbers n → Contains (reverse numbers) n
back_has numbers n there = Contains-permutation numbers (reverse numbers) n (IsPermutation-reverse numbers) there

back_of : (numbers : List ℕ) (n : ℕ) → Contains (reverse numbers) n → Contains numbers n
back_of numbers n there = Contains-permutation (reverse numbers) numbers n (IsPermutation-sym numbers (reverse numbers) (IsPermutation-reverse numbers)) there

back_once : (numbers : List ℕ) → HasNoRepeats numbers → HasNoRepeats (reverse numbers)
back_once [] once = once
back_once (n ∷ numbers) once =
    subst HasNoRepeats (sym (reverse-append (n ∷ []) numbers))
    (HasNoRepeats-push (reverse numbers) n (back_once numbers once.1) (λ there. once.0 (back_of numbers n there)))

back_each : (P : ℕ → Type 0) (numbers : List ℕ) → AllByRecursion P numbers → AllByRecursion P (reverse numbers)
back_each P numbers each = AllByRecursion-from_contains P (reverse numbers) (λ n there. AllByRecursion-contains P numbers n each (back_of numbers n there))

module _ {T : Type 0} where
  pub awake_back : (events : List Event) (time : ℕ) (groups : List (Split (Entry T))) (numbers : List ℕ)
      → AreAwake events time groups numbers → AreAwake events time groups (reverse numbers)
  awake_back events time groups numbers are = record {
    once = back_once numbers are.once;
    awake = back_each (StandsAwake events time groups) numbers are.awake;
    others = λ number entry there. ⊎_elim (λ among. inl (back_has numbers number among)) (λ asleep. inr asleep) (are.others number entry there);
  }

  pub rewound_back : (numbers : List ℕ) (old new : List (Split (Entry T))) → AreRewound numbers old new → AreRewound (reverse numbers) old new
  rewound_back numbers old new are = record {
    after = back_each (λ number. (group_at new number).after ≡ entries_at old number) numbers are.after;
    entries = are.entries;
    held = are.held;
  }
