-- A look at each of the groups.
use Rattle.sleepers.proofs.Vocabulary.{◌≡◌, ℕ, ◌+◌, ◌<◌, ◌≤◌, List, [], ◌∷◌, ◌++◌, Contains, ◌⊎◌, inl, inr, ⊎_elim, sym, subst, ap, ◌∙◌, arith, length, append-nil, AllByRecursion, flat_map-append}
use Rattle.sleepers.proofs.Vocabulary.{Contains-append_left, Contains-push, Contains-push_cases, Split, AllByRecursion-append, none_in_nil, HasNoRepeats-push, HasNoRepeats, Event, IsAsleep, AreAwake}
use Rattle.sleepers.proofs.Vocabulary.{StandsAsleep, StandsAwake, entries_at, entries_of, Entry}
use Rattle.sleepers.proofs.GroupLemmas.{within_at}
use Rattle.sleepers.proofs.NotedGroupLemmas.{below_next}

module _ {T : Type 0} where
  -- of the groups below one these are awake
  pub record AreAwakeBelow (events : List Event) (time : ℕ) (groups : List (Split (Entry T))) (bound : ℕ) (numbers : List ℕ)
      : Type 0 where
    pub once : HasNoRepeats numbers
    pub below : (number : ℕ) → Contains numbers number → number < bound
    pub awake : AllByRecursion (StandsAwake events time groups) numbers
    pub others : (number : ℕ) (entry : Entry T) → number < bound → Contains (entries_at groups number) entry
        → Contains numbers number ⊎ IsAsleep events time entry

  pub none_below : (events : List Event) (time : ℕ) (groups : List (Split (Entry T))) → AreAwakeBelow events time groups 0 []
  none_below events time groups = record {
    once = tt;
    below = λ n there. absurd (none_in_nil n there);
    awake = tt;
    others = λ n x lt there. absurd (omega (arith, lt));
  }

  pub below_asleep : (events : List Event) (time : ℕ) (groups : List (Split (Entry T))) (number : ℕ) (numbers : List ℕ)
      → StandsAsleep events time groups number → AreAwakeBelow events time groups number numbers
      → AreAwakeBelow events time groups (number + 1) numbers
  below_asleep events time groups number numbers asleep is = record {
    once = is.once;
    below = λ n there. let below = is.below n there in omega (arith, below);
    awake = is.awake;
    others = λ n x lt there. ⊎_elim (λ below. is.others n x below there)
        (λ e. inr (asleep x (subst (λ (m : ℕ). Contains (entries_at groups m) x) e there)))
        (below_next n number lt);
  }

  pub below_awake : (events : List Event) (time : ℕ) (groups : List (Split (Entry T))) (number : ℕ) (numbers : List ℕ)
      → StandsAwake events time groups number → AreAwakeBelow events time groups number numbers
      → AreAwakeBelow events time groups (number + 1) (numbers ++ number ∷ [])
  below_awake events time groups number numbers awake is = record {
    once = HasNoRepeats-push numbers number is.once (λ there. let below = is.below number there in omega (arith, below));
    below = λ n there. ⊎_elim (λ on. let below = is.below n on in omega (arith, below)) (λ e. omega (arith, e))
        (Contains-push_cases numbers number n there);
    awake = AllByRecursion-append (StandsAwake events time groups) numbers (number ∷ []) is.awake (awake, tt);
    others = λ n x lt there. ⊎_elim
        (λ below. ⊎_elim (λ on. inl (Contains-append_left numbers (number ∷ []) n on)) (λ asleep. inr asleep) (is.others n x below there))
        (λ e. inl (subst (λ (m : ℕ). Contains (numbers ++ number ∷ []) m) (sym e) (Contains-push numbers number)))
        (below_next n number lt);
  }

  pub below_all : (events : List Event) (time : ℕ) (groups : List (Split (Entry T))) (bound : ℕ) (numbers : List ℕ) → length groups ≤ bound
      → AreAwakeBelow events time groups bound numbers → AreAwake events time groups numbers
  below_all events time groups bound numbers all is = record {
    once = is.once;
    awake = is.awake;
    others = λ number entry there. let within = within_at groups number entry there in is.others number entry (omega (arith, within, all)) there;
  }

  pub one_group_more : (groups : List (Split (Entry T))) (numbers : List ℕ) (number : ℕ)
      → entries_of groups (numbers ++ number ∷ []) ≡ entries_of groups numbers ++ entries_at groups number
  one_group_more groups numbers number =
      flat_map-append (entries_at groups) numbers (number ∷ []) ∙ ap (λ (l : List (Entry T)). entries_of groups numbers ++ l) (append-nil (entries_at groups number))
