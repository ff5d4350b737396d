-- Groups that are noted under what wakes their entries.
use Rattle.sleepers.proofs.Vocabulary.{Bool, true, false, ◌≡◌, ℕ, ◌<◌, ◌≤◌, ◌+◌, List, [], ◌∷◌, ◌++◌, Contains, Option, None, Some, ◌⊎◌, inl, inr, ⊎_elim, refl, sym, ap, subst, subst₂, ◌∙◌, arith}
use Rattle.sleepers.proofs.Vocabulary.{length, length-append, append-nil, AllByRecursion, items_where_true, option_to_list, IsFiltered, ReturnsInTurn, cases_eq, cases_lt, Split, items, here, later}
use Rattle.sleepers.proofs.Vocabulary.{first_or_later, none_in_nil, AllByRecursion-contains, AllByRecursion-weaker, HasNoRepeats, Event, IsAsleep, IsFreePlace, entry_places, AreAlike, AreAwake}
use Rattle.sleepers.proofs.Vocabulary.{AreKept, AreNoted, AreRewound, HasIn, OthersStay, StandsAsleep, StandsAwake, StayGroups, Suits, WakeAlike, by_place, entries_at, group_at, held, CanBeFound}
use Rattle.sleepers.proofs.Vocabulary.{IsGroupFound, IsNoted, KeepsAll, KeepsOthers, Noted, PatternsSleep, awake_from, listed_patterns, Place, MatchesPattern, Entry, Pattern}
use Rattle.enf_data.specs.declared.seeds.Seed.{Seed}
use Rattle.sleepers.specs.machine.PatternKeys.{pattern_key}
use Rattle.sleepers.proofs.EntryLemmas.{in_places}
use Rattle.sleepers.proofs.GroupLemmas.{alike_back, alike_itself, alike_on, asleep_alike, fresh_at, fresh_held, held_has, nothing}
use Rattle.sleepers.proofs.KeyLemmas.{none_or}
use Rattle.sleepers.proofs.PlaceListLemmas.{apart_more, at_place, by_place_has, in_keeps, in_length, in_of}

-- ---- what is noted

pub noted_on : (old new : Noted) (group : ℕ) (pattern : Pattern) → KeepsAll old new → IsNoted old group pattern → IsNoted new group pattern
noted_on old new group pattern keeps is = record {
  shape = keeps.shapes _ is.shape;
  listed = subst (λ (s : Seed). Contains new.patterns (pattern_key s pattern.name pattern.args, group)) (sym keeps.seed)
      (keeps.patterns _ is.listed);
}

pub noted_each_on : (old new : Noted) (group : ℕ) (patterns : List Pattern) → KeepsAll old new → AllByRecursion (IsNoted old group) patterns
    → AllByRecursion (IsNoted new group) patterns
noted_each_on old new group patterns keeps each =
    AllByRecursion-weaker (IsNoted old group) (IsNoted new group) patterns (λ p is. noted_on old new group p keeps is) each

pub found_on : (old new : Noted) (group : ℕ) (patterns : Option (List Pattern)) (end : ℕ) → KeepsAll old new → IsGroupFound old group patterns end
    → IsGroupFound new group patterns end
found_on old new group patterns end keeps found =
    record { by_end = keeps.ends _ found.by_end; by_pattern = noted_each_on old new group (listed_patterns patterns) keeps found.by_pattern }

pub keeps_on : (one two three : Noted) → KeepsAll one two → KeepsAll two three → KeepsAll one three
keeps_on one two three a b = record {
  patterns = λ x there. b.patterns x (a.patterns x there);
  ends = λ x there. b.ends x (a.ends x there);
  shapes = λ x there. b.shapes x (a.shapes x there);
  is_begun = b.is_begun ∙ a.is_begun;
  seed = b.seed ∙ a.seed;
}

found_others : (old new : Noted) (released group : ℕ) (patterns : Option (List Pattern)) (end : ℕ) → (released ≡ group → ⊥)
    → KeepsOthers released old new → IsGroupFound old group patterns end → IsGroupFound new group patterns end
found_others old new released group patterns end other keeps found = record {
  by_end = ⊎_elim (λ same. absurd (other same)) (λ there. there) (keeps.ends (awake_from patterns end, group) found.by_end);
  by_pattern = AllByRecursion-weaker (IsNoted old group) (IsNoted new group) (listed_patterns patterns) (λ p is. record {
    shape = keeps.shapes _ is.shape;
    listed = subst (λ (s : Seed). Contains new.patterns (pattern_key s p.name p.args, group)) (sym keeps.seed)
        (⊎_elim (λ same. absurd (other same)) (λ there. there) (keeps.patterns (pattern_key old.seed p.name p.args, group) is.listed));
  }) found.by_pattern;
}

pub found_begun : (noted : Noted) (group : ℕ) (patterns : Option (List Pattern)) (end : ℕ) → IsGroupFound noted group patterns end
    → IsGroupFound (record { patterns = noted.patterns; ends = noted.ends; shapes = noted.shapes; is_begun = true; seed = noted.seed }) group patterns end
found_begun noted group patterns end found = record {
  by_end = found.by_end;
  by_pattern = AllByRecursion-weaker (IsNoted noted group)
      (IsNoted (record { patterns = noted.patterns; ends = noted.ends; shapes = noted.shapes; is_begun = true; seed = noted.seed }) group) (listed_patterns patterns)
      (λ p is. record { shape = is.shape; listed = is.listed }) found.by_pattern;
}

pub below_next : (m n : ℕ) → m < n + 1 → (m < n) ⊎ (m ≡ n)
below_next m n lt = ⊎_elim (λ below. inl below) (λ le. inr (omega (arith, lt, le))) (cases_lt m n)

-- what is found by a step's events and time, and what sleeps
pub found_or_sleeps : (noted : Noted) (events : List Event) (time : ℕ) (found : List ℕ)
    → ((pair : ℕ × ℕ) → Contains noted.ends pair → 0 ≤ pair.0 → pair.0 ≤ time → Contains found pair.1)
    → ((group : ℕ) (pattern : Pattern) → IsNoted noted group pattern → (event : Event) → Contains events event → MatchesPattern pattern event → Contains found group)
    → (group : ℕ) (patterns : Option (List Pattern)) (end : ℕ) → IsGroupFound noted group patterns end
    → Contains found group ⊎ PatternsSleep events time patterns end
found_or_sleeps noted events time found ends each group None end is = inl (ends (0, group) is.by_end (omega arith) (omega arith))
found_or_sleeps noted events time found ends each group (Some ps) end is =
    ⊎_elim
    (λ in_time. ⊎_elim (λ one. inl (each group one.0 (AllByRecursion-contains (IsNoted noted group) ps one.0 is.by_pattern one.2) one.1 one.3 one.4))
    (λ none. inr (record { some = ps; waits = refl; none = none; in_time = in_time })) (none_or ps events))
    (λ over. inl (ends (end, group) is.by_end (omega arith) over)) (cases_lt time end)

-- ---- numbers of which some are left

where_in : (bs : List Bool) (xs : List ℕ) (n : ℕ) → Contains (items_where_true bs xs) n → Contains xs n
where_in [] xs n there = absurd (none_in_nil n there)
where_in (b ∷ bs) [] n there = absurd (none_in_nil n there)
where_in (true ∷ bs) (x ∷ xs) n there =
    ⊎_elim (λ same. (0, omega arith, same)) (λ on. later n x xs (where_in bs xs n on)) (first_or_later n x (items_where_true bs xs) there)
where_in (false ∷ bs) (x ∷ xs) n there = later n x xs (where_in bs xs n there)

where_once : (bs : List Bool) (xs : List ℕ) → HasNoRepeats xs → HasNoRepeats (items_where_true bs xs)
where_once [] xs once = tt
where_once (b ∷ bs) [] once = tt
where_once (true ∷ bs) (x ∷ xs) once = ((λ there. once.0 (where_in bs xs x there)), where_once bs xs once.1)
where_once (false ∷ bs) (x ∷ xs) once = where_once bs xs once.1

module _ {F : Type 0} (R : F → ℕ → Bool → F → Type 0) (A D : ℕ → Type 0) (f : F)
    (says : (n : ℕ) (b : Bool) (q : F) → R f n b q → ((b ≡ true → A n) × (b ≡ false → D n)) × (q ≡ f)) where
  where_each : (bs : List Bool) (xs : List ℕ) (p q : F) → p ≡ f → ReturnsInTurn R p bs xs q → AllByRecursion A (items_where_true bs xs)
  where_each [] xs p q same turn = tt
  where_each (b ∷ bs) [] p q same turn = tt
  where_each (true ∷ bs) (x ∷ xs) p q same turn =
      let s = says x true turn.0 (subst (λ (h : F). R h x true turn.0) same turn.1) in (s.0.0 refl, where_each bs xs turn.0 q s.1 turn.2)
  where_each (false ∷ bs) (x ∷ xs) p q same turn =
      let s = says x false turn.0 (subst (λ (h : F). R h x false turn.0) same turn.1) in where_each bs xs turn.0 q s.1 turn.2

  where_others : (bs : List Bool) (xs : List ℕ) (p q : F) → p ≡ f → length bs ≡ length xs → ReturnsInTurn R p bs xs q → (n : ℕ) → Contains xs n
      → Contains (items_where_true bs xs) n ⊎ D n
  where_others bs [] p q same long turn n there = absurd (none_in_nil n there)
  where_others [] (x ∷ xs) p q same long turn n there = absurd (omega (arith, long))
  where_others (true ∷ bs) (x ∷ xs) p q same long turn n there =
      let s = says x true turn.0 (subst (λ (h : F). R h x true turn.0) same turn.1) in
      ⊎_elim (λ e. inl (0, omega arith, e))
      (λ on. ⊎_elim (λ a. inl (later n x (items_where_true bs xs) a)) (λ d. inr d) (where_others bs xs turn.0 q s.1 (omega (arith, long)) turn.2 n on))
      (first_or_later n x xs there)
  where_others (false ∷ bs) (x ∷ xs) p q same long turn n there =
      let s = says x false turn.0 (subst (λ (h : F). R h x false turn.0) same turn.1) in
      ⊎_elim (λ e. inr (subst D e (s.0.1 refl))) (λ on. where_others bs xs turn.0 q s.1 (omega (arith, long)) turn.2 n on) (first_or_later n x xs there)

-- ---- groups that are noted

module _ {T : Type 0} where
  pub noted_all : (groups : List (Split (Entry T))) (old new : Noted) → KeepsAll old new → AreNoted groups old → AreNoted groups new
  noted_all groups old new keeps noted = record {
    found = λ number x there begun. found_on old new number x.patterns x.end keeps (noted.found number x there (sym keeps.is_begun ∙ begun));
    alike = noted.alike;
  }

  pub noted_same : (old new : List (Split (Entry T))) (noted : Noted) → ((number : ℕ) → entries_at new number ≡ entries_at old number)
      → AreNoted old noted → AreNoted new noted
  noted_same old new noted same is = record {
    found = λ number x there. is.found number x (subst (λ (l : List (Entry T)). Contains l x) (same number) there);
    alike = λ number. subst AreAlike (sym (same number)) (is.alike number);
  }

  pub noted_stay : (old new : List (Split (Entry T))) (noted : Noted) → StayGroups old new → AreNoted old noted → AreNoted new noted
  noted_stay old new noted stay is = noted_same old new noted (λ number. ap items (stay.each number)) is

  pub noted_others : (groups : List (Split (Entry T))) (old new : Noted) (released : ℕ) → entries_at groups released ≡ [] → KeepsOthers released old new
      → AreNoted groups old → AreNoted groups new
  noted_others groups old new released none keeps noted = record {
    found = λ number x there begun. found_others old new released number x.patterns x.end
        (λ same. none_in_nil x (subst (λ (l : List (Entry T)). Contains l x) none (subst (λ (n : ℕ). Contains (entries_at groups n) x) (sym same) there))) keeps
        (noted.found number x there (sym keeps.is_begun ∙ begun));
    alike = noted.alike;
  }

  found_alike : (noted : Noted) (number : ℕ) (x y : Entry T) → WakeAlike x y → IsGroupFound noted number x.patterns x.end
      → IsGroupFound noted number y.patterns y.end
  found_alike noted number x y alike found =
      let moved : IsGroupFound noted number y.patterns x.end = subst (λ (o : Option (List Pattern)). IsGroupFound noted number o x.end) alike.patterns found in
      ⊎_elim (λ none. by y.patterns (sym alike.patterns ∙ none) moved) (λ same. subst (λ (n : ℕ). IsGroupFound noted number y.patterns n) same moved) alike.end
    where
      by : (o : Option (List Pattern)) → o ≡ None → IsGroupFound noted number o x.end → IsGroupFound noted number o y.end
      by None none is = record { by_end = is.by_end; by_pattern = is.by_pattern }
      by (Some ps) none is = absurd (not_none ps none)
        where
          not_none : (qs : List Pattern) → Some qs ≡ None → ⊥
          not_none qs e = cc

  -- a group that is found under what wakes its first entry
  pub found_first : (groups : List (Split (Entry T))) (noted : Noted) (number : ℕ) (first : Entry T) (rest : List (Entry T))
      → entries_at groups number ≡ first ∷ rest → IsGroupFound noted number first.patterns first.end → AreAlike (entries_at groups number)
      → (x : Entry T) → Contains (entries_at groups number) x → IsGroupFound noted number x.patterns x.end
  found_first groups noted number first rest are found alike x there =
      found_alike noted number first x (alike first x (subst (λ (l : List (Entry T)). Contains l first) (sym are) (here first rest)) there) found

  pub noted_begun : (groups : List (Split (Entry T))) (old each new : Noted) → AreNoted groups old
      → ((number : ℕ) (x : Entry T) → Contains (entries_at groups number) x → IsGroupFound each number x.patterns x.end)
      → new ≡ record { patterns = each.patterns; ends = each.ends; shapes = each.shapes; is_begun = true; seed = each.seed } → AreNoted groups new
  noted_begun groups old each new noted found same = record {
    found = λ number x there begun.
        subst (λ (n : Noted). IsGroupFound n number x.patterns x.end) (sym same) (found_begun each number x.patterns x.end (found number x there));
    alike = noted.alike;
  }

  pub suits_alike : (groups : List (Split (Entry T))) (noted : Noted) (number : ℕ) (first : Entry T) (rest : List (Entry T)) (entry : Entry T)
      → AreNoted groups noted → entries_at groups number ≡ first ∷ rest → WakeAlike first entry → Suits groups noted number entry
  suits_alike groups noted number first rest entry is are alike =
      let there : Contains (entries_at groups number) first = subst (λ (l : List (Entry T)). Contains l first) (sym are) (here first rest) in
      record {
        found = λ begun. found_alike noted number first entry alike (is.found number first there begun);
        alike = λ x among. alike_on x first entry (is.alike number x first among there) alike;
      }

  pub noted_put : (old new : List (Split (Entry T))) (noted : Noted) (number : ℕ) (entry : Entry T) → Suits old noted number entry
      → OthersStay number old new → HasIn entry (entries_at old number) (entries_at new number) → AreNoted old noted → AreNoted new noted
  noted_put old new noted number entry suits others one is = record {
    found = λ n x there. ⊎_elim
        (λ same. subst (λ (m : ℕ). CanBeFound noted m x.patterns x.end) (sym same)
        (⊎_elim (λ e. subst (λ (y : Entry T). CanBeFound noted number y.patterns y.end) e suits.found) (λ on. is.found number x on)
        (in_of entry (entries_at old number) (entries_at new number) x one (subst (λ (m : ℕ). Contains (entries_at new m) x) same there))))
        (λ other. is.found n x (subst (λ (s : Split (Entry T)). Contains (items s) x) (others n other) there)) (cases_eq n number);
    alike = λ n. ⊎_elim (λ same. subst (λ (m : ℕ). AreAlike (entries_at new m)) (sym same) among)
        (λ other. subst (λ (s : Split (Entry T)). AreAlike (items s)) (sym (others n other)) (is.alike n)) (cases_eq n number);
  }
    where
      among : AreAlike (entries_at new number)
      among x y front back =
          ⊎_elim
          (λ e. ⊎_elim (λ f. subst (λ (z : Entry T). WakeAlike x z) (sym e ∙ f) (alike_itself x))
          (λ b. alike_back y x (subst (λ (z : Entry T). WakeAlike y z) e (suits.alike y b))) (of y back))
          (λ a. ⊎_elim (λ f. subst (λ (z : Entry T). WakeAlike x z) f (suits.alike x a)) (λ b. is.alike number x y a b) (of y back)) (of x front)
        where
          of : (z : Entry T) → Contains (entries_at new number) z → (entry ≡ z) ⊎ Contains (entries_at old number) z
          of z there = in_of entry (entries_at old number) (entries_at new number) z one there

  pub noted_take : (old new : List (Split (Entry T))) (noted : Noted) (number : ℕ) (entry : Entry T) → OthersStay number old new
      → HasIn entry (entries_at new number) (entries_at old number) → AreNoted old noted → AreNoted new noted
  noted_take old new noted number entry others one is = record {
    found = λ n x there. is.found n x (within n x there);
    alike = λ n x y front back. is.alike n x y (within n x front) (within n y back);
  }
    where
      within : (n : ℕ) (x : Entry T) → Contains (entries_at new n) x → Contains (entries_at old n) x
      within n x there =
          ⊎_elim
          (λ same. subst (λ (m : ℕ). Contains (entries_at old m) x) (sym same) (in_keeps entry (entries_at new number) (entries_at old number) x one
          (subst (λ (m : ℕ). Contains (entries_at new m) x) same there)))
          (λ other. subst (λ (s : Split (Entry T)). Contains (items s) x) (others n other) there) (cases_eq n number)

  -- ---- cursors that are put in front

  pub rewound_none : (groups : List (Split (Entry T))) → AreRewound [] groups groups
  rewound_none groups = record { after = tt; entries = λ number. refl; held = refl }

  pub rewound_more : (numbers : List ℕ) (number : ℕ) (first old new : List (Split (Entry T))) → AreRewound numbers first old
      → (group_at new number).after ≡ entries_at old number → ((n : ℕ) → entries_at new n ≡ entries_at old n) → OthersStay number old new
      → held new ≡ held old → AreRewound (numbers ++ number ∷ []) first new
  rewound_more numbers number first old new is after entries others all = record {
    after = each numbers is.after;
    entries = λ n. entries n ∙ is.entries n;
    held = all ∙ is.held;
  }
    where
      each : (ns : List ℕ) → AllByRecursion (λ n. (group_at old n).after ≡ entries_at first n) ns
          → AllByRecursion (λ n. (group_at new n).after ≡ entries_at first n) (ns ++ number ∷ [])
      each [] before = (after ∙ is.entries number, tt)
      each (n ∷ ns) before = (
        ⊎_elim (λ same. subst (λ (m : ℕ). (group_at new m).after ≡ entries_at first m) (sym same) (after ∙ is.entries number))
            (λ other. ap (λ (s : Split (Entry T)). s.after) (others n other) ∙ before.0) (cases_eq n number),
        each ns before.1,
      )

  -- ---- which of the groups that were found are awake

  -- those that are left of them are awake, and the others sleep, where the entries of each are alike
  pub record IsAwakeOf (events : List Event) (time : ℕ) (groups : List (Split (Entry T))) (found numbers : List ℕ) : Type 0 where
    pub once : HasNoRepeats numbers
    pub awake : AllByRecursion (λ number. AreAlike (entries_at groups number) → StandsAwake events time groups number) numbers
    pub others : (number : ℕ) → Contains found number → Contains numbers number ⊎ (AreAlike (entries_at groups number) → StandsAsleep events time groups number)

  module _ (events : List Event) (time : ℕ) (groups : List (Split (Entry T))) where
    pub retained : {F : Type 0} (R : F → ℕ → Bool → F → Type 0) (f : F)
        → ((n : ℕ) (b : Bool) (q : F) → R f n b q
        → ((b ≡ true → AreAlike (entries_at groups n) → StandsAwake events time groups n) × (b ≡ false → AreAlike (entries_at groups n) → StandsAsleep events time groups n)) × (q ≡ f))
        → (found numbers : List ℕ) → HasNoRepeats found → IsFiltered R f found numbers → IsAwakeOf events time groups found numbers
    retained R f says found numbers once filtered =
        let A = λ (n : ℕ). AreAlike (entries_at groups n) → StandsAwake events time groups n in
        let D = λ (n : ℕ). AreAlike (entries_at groups n) → StandsAsleep events time groups n in
        record {
          once = subst HasNoRepeats (sym filtered.4) (where_once filtered.0 found once);
          awake = subst (AllByRecursion A) (sym filtered.4) (where_each R A D f says filtered.0 found f filtered.1 refl filtered.3);
          others = λ n there. subst (λ (l : List ℕ). Contains l n ⊎ D n) (sym filtered.4) (where_others R A D f says filtered.0 found f filtered.1 refl filtered.2 filtered.3 n there);
        }

    pub found_by_index : (noted : Noted) (found : List ℕ) → AreNoted groups noted → noted.is_begun ≡ true
        → ((group : ℕ) (patterns : Option (List Pattern)) (end : ℕ) → IsGroupFound noted group patterns end → Contains found group ⊎ PatternsSleep events time patterns end)
        → (number : ℕ) (entry : Entry T) → Contains (entries_at groups number) entry → Contains found number ⊎ IsAsleep events time entry
    found_by_index noted found is begun finds number entry there =
        ⊎_elim (λ among. inl among) (λ sleeps. inr (record { patterns = sleeps.some; waits = sleeps.waits; none = sleeps.none; in_time = sleeps.in_time }))
        (finds number entry.patterns entry.end (is.found number entry there begun))

    pub all_awake : (noted : Noted) (found numbers : List ℕ) → AreNoted groups noted
        → ((number : ℕ) (entry : Entry T) → Contains (entries_at groups number) entry → Contains found number ⊎ IsAsleep events time entry)
        → IsAwakeOf events time groups found numbers → AreAwake events time groups numbers
    all_awake noted found numbers is finds of = record {
      once = of.once;
      awake = AllByRecursion-weaker (λ number. AreAlike (entries_at groups number) → StandsAwake events time groups number) (StandsAwake events time groups) numbers
          (λ number stands. stands (is.alike number)) of.awake;
      others = λ number entry there. ⊎_elim
          (λ among. ⊎_elim (λ a. inl a) (λ asleep. inr (asleep (is.alike number) entry there)) (of.others number among))
          (λ asleep. inr asleep) (finds number entry there);
    }

    -- the first of a group tells of all
    pub stands_awake : (number : ℕ) (first : Entry T) (rest : List (Entry T)) → AreAlike (entries_at groups number) → entries_at groups number ≡ first ∷ rest
        → (IsAsleep events time first → ⊥) → StandsAwake events time groups number
    stands_awake number first rest alike are awake = record {
      some = λ none. not_both (entries_at groups number) none are;
      none = λ x there asleep. awake (asleep_alike events time x first (alike x first there (subst (λ (l : List (Entry T)). Contains l first) (sym are) (here first rest))) asleep);
    }
      where
        not_both : (l : List (Entry T)) → l ≡ [] → l ≡ first ∷ rest → ⊥
        not_both l none some = cc

    pub stands_asleep : (number : ℕ) (first : Entry T) (rest : List (Entry T)) → AreAlike (entries_at groups number) → entries_at groups number ≡ first ∷ rest
        → IsAsleep events time first → (entry : Entry T) → Contains (entries_at groups number) entry → IsAsleep events time entry
    stands_asleep number first rest alike are asleep x there =
        asleep_alike events time first x (alike first x (subst (λ (l : List (Entry T)). Contains l first) (sym are) (here first rest)) there) asleep

  -- ---- no entry is left

  nothing_in : (before after : List (Entry T)) → ((x : Entry T) → Contains (before ++ after) x → ⊥)
      → ◌≡◌ {A = Split (Entry T)} (record { before = before; after = after }) nothing
  nothing_in [] [] free = refl
  nothing_in [] (x ∷ after) free = absurd (free x (here x after))
  nothing_in (x ∷ before) after free = absurd (free x (here x (before ++ after)))

  nothing_at : (s : Split (Entry T)) → ((x : Entry T) → Contains (items s) x → ⊥) → s ≡ nothing
  nothing_at s free = nothing_in s.before s.after free

  pub none_stay : (groups : List (Split (Entry T))) → 0 ≡ length (held groups) → StayGroups groups []
  none_stay groups long = record {
    each = λ number. sym (nothing_at (group_at groups number) (λ x there.
        none_in_nil x (subst (λ (l : List (Entry T)). Contains l x) none (held_has groups number x there))));
    all = sym none;
  }
    where
      nil_from : (xs : List (Entry T)) → 0 ≡ length xs → xs ≡ []
      nil_from [] is = refl
      nil_from (x ∷ xs) is = absurd (omega (arith, is))

      none : held groups ≡ []
      none = nil_from (held groups) long

  -- ---- what stands in the invariant

  last_at : (groups : List (Split (Entry T))) (g : Split (Entry T)) → group_at (groups ++ g ∷ []) (length groups) ≡ g
  last_at [] g = refl
  last_at (h ∷ groups) g = last_at groups g

  -- a last group without entries less
  pub trimmed_stay : (old new : List (Split (Entry T))) (popped : Option (Split (Entry T))) (number : ℕ)
      → old ≡ new ++ option_to_list popped → number + 1 ≡ length old → entries_at old number ≡ [] → StayGroups old new
  trimmed_stay old new None number is many none =
      let same = sym (is ∙ append-nil new) in
      record { each = λ n. ap (λ (l : List (Split (Entry T))). group_at l n) same; all = ap held same }
  trimmed_stay old new (Some g) number is many none =
      let at : number ≡ length new = omega (arith, many, ap length is, length-append new (g ∷ [])) in
      let last : group_at old number ≡ g = subst₂ (λ (l : List (Split (Entry T))) (n : ℕ). group_at l n ≡ g) (sym is) (sym at) (last_at new g) in
      let empty = sym last ∙ nothing_at (group_at old number) (λ x there. none_in_nil x (subst (λ (l : List (Entry T)). Contains l x) none there)) in
      let same = is ∙ ap (λ (h : Split (Entry T)). new ++ h ∷ []) empty in
      record {
        each = λ n. sym (ap (λ (l : List (Split (Entry T))). group_at l n) same ∙ fresh_at new n);
        all = sym (ap held same ∙ fresh_held new);
      }

  pub kept_on : (old new : List (Split (Entry T))) (before after : Noted) (count : ℕ) (walk : List ℕ) → StayGroups old new → AreNoted new after
      → AreKept old before count walk → AreKept new after count walk
  kept_on old new before after count walk stay noted kept = record {
    many = kept.many ∙ ap length (sym stay.all);
    apart = subst (λ (l : List (Entry T)). HasNoRepeats (entry_places l)) (sym stay.all) kept.apart;
    index = noted;
    walk = record {
      once = kept.walk.once;
      some = AllByRecursion-weaker (λ (n : ℕ). (group_at old n).after ≡ [] → ⊥) (λ (n : ℕ). (group_at new n).after ≡ [] → ⊥) walk
          (λ n some none. some (ap (λ (s : Split (Entry T)). s.after) (sym (stay.each n)) ∙ none)) kept.walk.some;
    };
  }

  pub kept_stay : (old new : List (Split (Entry T))) (before after : Noted) (count : ℕ) (walk : List ℕ) → StayGroups old new → AreNoted new after
      → AreKept old before count walk → AreKept new after count []
  kept_stay old new before after count walk stay noted kept =
      let on = kept_on old new before after count walk stay noted kept in
      record { many = on.many; apart = on.apart; index = on.index; walk = record { once = tt; some = tt } }

  pub free_held : (place : Place) (groups : List (Split (Entry T))) → IsFreePlace place (by_place (held groups)) → IsFreePlace place (held groups)
  free_held place groups free there =
      let (x, among, at) = at_place (held groups) place there in
      free (subst (λ (p : Place). Contains (entry_places (by_place (held groups))) p) at (in_places (by_place (held groups)) x (by_place_has (held groups) x among)))

  pub kept_put : (old new : List (Split (Entry T))) (noted : Noted) (count number : ℕ) (walk : List ℕ) (entry : Entry T) → Suits old noted number entry
      → OthersStay number old new → HasIn entry (entries_at old number) (entries_at new number) → HasIn entry (held old) (held new)
      → IsFreePlace entry.place (by_place (held old)) → AreKept old noted count walk → AreKept new noted (count + 1) []
  kept_put old new noted count number walk entry suits others group all free kept = record {
    many = let many = kept.many in omega (arith, many, in_length entry (held old) (held new) all);
    apart = apart_more entry (held old) (held new) all kept.apart (free_held entry.place old free);
    index = noted_put old new noted number entry suits others group kept.index;
    walk = record { once = tt; some = tt };
  }
