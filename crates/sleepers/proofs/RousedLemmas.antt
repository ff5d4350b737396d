-- Entries that an event wakes, group by group.
use Rattle.sleepers.proofs.Vocabulary.{◌≡◌, ℕ, ◌+◌, ◌<◌, ◌≤◌, List, [], ◌∷◌, ◌++◌, Contains, Option, None, Some, ◌⊎◌, inl, inr, ⊎_elim, sym, subst, ◌∙◌, arith, length, true, none-some, same_Some}
use Rattle.sleepers.proofs.Vocabulary.{AllByRecursion-contains, Contains-append, here, Split, Event, AreAlike, AreNoted, entries_at, held, HasNone, IsContainedIn, IsGroupFound, IsNoted}
use Rattle.sleepers.proofs.Vocabulary.{MatchesPattern, Noted, Pattern, Entry}
use Rattle.sleepers.specs.machine.Agendas.{IsRousedOf, LeavesAsleep}
use Rattle.sleepers.proofs.GroupLemmas.{held_has, held_in, within_at}
use Rattle.sleepers.proofs.KeyLemmas.{none_or}
use Rattle.sleepers.proofs.NotedGroupLemmas.{below_next}
use Rattle.sleepers.proofs.StepLemmas.{from_left, from_right}

-- a group is found under a pattern of which the event is, or the event is of none of its patterns
found_or_leaves : (noted : Noted) (event : Event) (numbers : List ℕ)
    → ((group : ℕ) (pattern : Pattern) → IsNoted noted group pattern → (e : Event) → Contains (event ∷ []) e → MatchesPattern pattern e → Contains numbers group)
    → (group : ℕ) (patterns : Option (List Pattern)) (end : ℕ) → IsGroupFound noted group patterns end
    → Contains numbers group ⊎ ((ps : List Pattern) → patterns ≡ Some ps → HasNone ps (event ∷ []))
found_or_leaves noted event numbers each group None end is = inr (λ ps none. absurd (none-some ps none))
found_or_leaves noted event numbers each group (Some ps) end is =
    ⊎_elim (λ one. inl (each group one.0 (AllByRecursion-contains (IsNoted noted group) ps one.0 is.by_pattern one.2) one.1 one.3 one.4))
    (λ none. inr (λ qs same. subst (λ (l : List Pattern). HasNone l (event ∷ [])) (same_Some ps qs same) none)) (none_or ps (event ∷ []))

module _ {T : Type 0} (event : Event) (groups : List (Split (Entry T))) where
  pub rouses_found : (noted : Noted) (numbers : List ℕ) → AreNoted groups noted → noted.is_begun ≡ true
      → ((group : ℕ) (pattern : Pattern) → IsNoted noted group pattern → (e : Event) → Contains (event ∷ []) e → MatchesPattern pattern e → Contains numbers group)
      → (number : ℕ) (x : Entry T) → Contains (entries_at groups number) x → Contains numbers number ⊎ LeavesAsleep event x
  rouses_found noted numbers are begun each number x there =
      found_or_leaves noted event numbers each number x.patterns x.end (are.found number x there begun)

  -- what is roused of some groups is what is roused of all, where these are the others
  pub roused_by_found : (numbers : List ℕ) (some : List (Entry T)) → IsContainedIn some (held groups)
      → ((number : ℕ) (x : Entry T) → Contains numbers number → Contains (entries_at groups number) x → Contains some x ⊎ LeavesAsleep event x)
      → ((number : ℕ) (x : Entry T) → Contains (entries_at groups number) x → Contains numbers number ⊎ LeavesAsleep event x)
      → IsRousedOf event (held groups) some
  roused_by_found numbers some among all found = record {
    among = among;
    roused = λ x there.
        let (number, on) = held_in groups x there in
        ⊎_elim (λ is. all number x is on) (λ leaves. inr leaves) (found number x on);
  }

  -- ---- a look at each of the groups

  pub record AreRousedBelow (bound : ℕ) (some : List (Entry T)) : Type 0 where
    pub among : IsContainedIn some (held groups)
    pub roused : (number : ℕ) (x : Entry T) → number < bound → Contains (entries_at groups number) x → Contains some x ⊎ LeavesAsleep event x

  pub roused_none : (some : List (Entry T)) → IsContainedIn some (held groups) → AreRousedBelow 0 some
  roused_none some among = record { among = among; roused = λ number x below there. absurd (omega (arith, below)) }

  pub roused_more : (number : ℕ) (some more : List (Entry T)) → AreRousedBelow number some → IsContainedIn some more → IsContainedIn more (held groups)
      → ((x : Entry T) → Contains (entries_at groups number) x → Contains more x ⊎ LeavesAsleep event x) → AreRousedBelow (number + 1) more
  roused_more number some more is kept among one = record {
    among = among;
    roused = λ n x below there. ⊎_elim
        (λ before. ⊎_elim (λ on. inl (kept x on)) (λ leaves. inr leaves) (is.roused n x before there))
        (λ same. one x (subst (λ (m : ℕ). Contains (entries_at groups m) x) same there))
        (below_next n number below);
  }

  pub roused_all : (bound : ℕ) (some : List (Entry T)) → length groups ≤ bound → AreRousedBelow bound some → IsRousedOf event (held groups) some
  roused_all bound some enough is = record {
    among = is.among;
    roused = λ x there.
        let (number, on) = held_in groups x there in
        let within = within_at groups number x on in
        is.roused number x (omega (arith, within, enough)) on;
  }

  -- ---- a group

  pub leaves_alike : (number : ℕ) (first : Entry T) (rest : List (Entry T)) → AreAlike (entries_at groups number) → entries_at groups number ≡ first ∷ rest
      → LeavesAsleep event first → (x : Entry T) → Contains (entries_at groups number) x → LeavesAsleep event x
  leaves_alike number first rest alike is leaves x there ps waits =
      leaves ps ((alike first x (subst (λ (l : List (Entry T)). Contains l first) (sym is) (here first rest)) there).patterns ∙ waits)

  pub group_among : (number : ℕ) (some more : List (Entry T)) → more ≡ some ++ entries_at groups number → IsContainedIn some (held groups) → IsContainedIn more (held groups)
  group_among number some more are among x there =
      ⊎_elim (among x) (λ on. held_has groups number x on)
      (Contains-append some (entries_at groups number) x (subst (λ (l : List (Entry T)). Contains l x) are there))

  pub group_kept : (number : ℕ) (some more : List (Entry T)) → more ≡ some ++ entries_at groups number → IsContainedIn some more
  group_kept number some more are x there = subst (λ (l : List (Entry T)). Contains l x) (sym are) (from_left some (entries_at groups number) x there)

  pub group_all : (number : ℕ) (some more : List (Entry T)) → more ≡ some ++ entries_at groups number → IsContainedIn (entries_at groups number) more
  group_all number some more are x there = subst (λ (l : List (Entry T)). Contains l x) (sym are) (from_right some (entries_at groups number) x there)
