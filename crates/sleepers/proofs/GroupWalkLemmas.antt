-- A walk over groups.
use Rattle.sleepers.proofs.Vocabulary.{◌≡◌, ℕ, ◌-◌, Bool, true, not, List, [], ◌∷◌, ◌++◌, Option, None, Some, IfSome, IsNone, ◌⊎◌, inl, inr, ⊎_elim, refl, sym, ap, subst, ◌∙◌, arith, drop, length}
use Rattle.sleepers.proofs.Vocabulary.{Bor, is_some, option_to_list, Split, HasNoRepeats, Event, HasOneMoreEntry, entry_places, AreAwake, AreKept, AreNoted, AreRewound, HasIn, IsWalk, OthersStay}
use Rattle.sleepers.proofs.Vocabulary.{ahead_of, by_place, entries_at, group_at, held, Noted, Entry}
use Rattle.sleepers.proofs.GroupLemmas.{begun_walk, walk_ahead, walk_on, walk_rest}
use Rattle.sleepers.proofs.NotedGroupLemmas.{noted_same, noted_take}
use Rattle.sleepers.proofs.PlaceListLemmas.{apart_fewer, by_place_more, in_length}

-- what `is_none` tells
pub none_is : {X : Type 0} (r : Option X) (Q : Type 0) (b : Bool) → is_some r ≡ not b → b ≡ true → (IsNone r → Q) × (Q → IsNone r) → Q
none_is r Q b is empty tells = tells.0 (is ∙ ap not empty)

module _ {T : Type 0} where
  -- a walk begins
  pub begun_kept : (events : List Event) (time : ℕ) (numbers : List ℕ) (old new : List (Split (Entry T))) (noted : Noted) (count : ℕ) (walk : List ℕ)
      → AreAwake events time old numbers → AreRewound numbers old new → AreKept old noted count walk → AreKept new noted count numbers
  begun_kept events time numbers old new noted count walk awake rewound kept = record {
    many = kept.many ∙ ap length (sym rewound.held);
    apart = subst (λ (l : List (Entry T)). HasNoRepeats (entry_places l)) (sym rewound.held) kept.apart;
    index = noted_same old new noted rewound.entries kept.index;
    walk = begun_walk events time numbers old new awake rewound;
  }

  -- ---- the entry at which a walk stands

  front_nil : (xs ys : List (Entry T)) → xs ++ ys ≡ [] → xs ≡ []
  front_nil [] ys none = refl
  front_nil (x ∷ xs) ys none = absurd (omega (arith, ap length none))

  module _ (groups : List (Split (Entry T))) (number : ℕ) (walk : List ℕ) (is : walk ≡ number ∷ drop 1 walk) where
    all_ahead : ahead_of groups walk ≡ (group_at groups number).after ++ ahead_of groups (drop 1 walk)
    all_ahead = ap (ahead_of groups) is

    pub peek_none : IsWalk groups walk → (r : Option (Bor (Entry T)))
        → (IsNone r → (group_at groups number).after ≡ []) × ((group_at groups number).after ≡ [] → IsNone r)
        → (IsNone r → ahead_of groups walk ≡ []) × (ahead_of groups walk ≡ [] → IsNone r)
    peek_none on r tells = (
      (λ none. absurd ((subst (IsWalk groups) is on).some.0 (tells.0 none))),
      (λ none. tells.1 (front_nil (group_at groups number).after (ahead_of groups (drop 1 walk)) (sym all_ahead ∙ none))),
    )

    pub peek_some : (r : Option (Bor (Entry T))) → IfSome r (λ entry. (group_at groups number).after ≡ entry.now ∷ drop 1 (group_at groups number).after)
        → IfSome r (λ entry. ahead_of groups walk ≡ entry.now ∷ drop 1 (ahead_of groups walk))
    peek_some None tells = tt
    peek_some (Some entry) tells =
        let front = all_ahead ∙ ap (λ (l : List (Entry T)). l ++ ahead_of groups (drop 1 walk)) tells in
        front ∙ ap (λ (l : List (Entry T)). entry.now ∷ l) (sym (ap (λ (l : List (Entry T)). drop 1 l) front))

  nil_or : (xs : List (Entry T)) → (xs ≡ []) ⊎ (xs ≡ [] → ⊥)
  nil_or [] = inl refl
  nil_or (x ∷ xs) = inr (λ none. omega (arith, ap length none))

  drop_front : (xs ys : List (Entry T)) → (xs ≡ [] → ⊥) → drop 1 (xs ++ ys) ≡ drop 1 xs ++ ys
  drop_front [] ys some = absurd (some refl)
  drop_front (x ∷ xs) ys some = refl

  -- ---- an entry that is passed

  module _ (old new : List (Split (Entry T))) (noted : Noted) (count number : ℕ) (walk : List ℕ) (is : walk ≡ number ∷ drop 1 walk)
      (others : OthersStay number old new) where
    begun : AreKept old noted count walk → IsWalk old (number ∷ drop 1 walk)
    begun kept = subst (IsWalk old) is kept.walk

    first_ahead : ahead_of old walk ≡ (group_at old number).after ++ ahead_of old (drop 1 walk)
    first_ahead = ap (ahead_of old) is

    rest_ahead : AreKept old noted count walk → ahead_of new (drop 1 walk) ≡ ahead_of old (drop 1 walk)
    rest_ahead kept = walk_ahead number (drop 1 walk) old new others (begun kept)

    -- what is left of the walk: the group, as long as there is something ahead in it
    module _ (left : List ℕ) (over : (group_at new number).after ≡ [] → left ≡ drop 1 walk)
        (on : ((group_at new number).after ≡ [] → ⊥) → left ≡ walk) where
      pub left_ahead : AreKept old noted count walk → ahead_of new left ≡ (group_at new number).after ++ ahead_of old (drop 1 walk)
      left_ahead kept =
          let rest = rest_ahead kept in
          ⊎_elim (λ none. ap (ahead_of new) (over none) ∙ rest ∙ ap (λ (l : List (Entry T)). l ++ ahead_of old (drop 1 walk)) (sym none))
          (λ some. ap (ahead_of new) (on some ∙ is) ∙ ap (λ (l : List (Entry T)). (group_at new number).after ++ l) rest) (nil_or (group_at new number).after)

      left_walk : AreKept old noted count walk → IsWalk new left
      left_walk kept =
          ⊎_elim (λ none. subst (IsWalk new) (sym (over none)) (walk_rest number (drop 1 walk) old new others (begun kept)))
          (λ some. subst (IsWalk new) (sym (on some ∙ is)) (walk_on number (drop 1 walk) old new others (begun kept) some)) (nil_or (group_at new number).after)

      pub pass_kept : AreKept old noted count walk → ((n : ℕ) → entries_at new n ≡ entries_at old n) → held new ≡ held old → AreKept new noted count left
      pass_kept kept entries all = record {
        many = kept.many ∙ ap length (sym all);
        apart = subst (λ (l : List (Entry T)). HasNoRepeats (entry_places l)) (sym all) kept.apart;
        index = noted_same old new noted entries kept.index;
        walk = left_walk kept;
      }

      pub take_kept : (x : Entry T) → AreKept old noted count walk → HasIn x (held new) (held old) → (after : Noted) → AreNoted new after
          → AreKept new after (count - 1) left
      take_kept x kept all after index = record {
        many = let many = kept.many in omega (arith, many, in_length x (held new) (held old) all);
        apart = (apart_fewer x (held new) (held old) all kept.apart).0;
        index = index;
        walk = left_walk kept;
      }

    pub passed : AreKept old noted count walk → drop 1 (ahead_of old walk) ≡ drop 1 (group_at old number).after ++ ahead_of old (drop 1 walk)
    passed kept =
        ap (λ (l : List (Entry T)). drop 1 l) first_ahead ∙ drop_front (group_at old number).after (ahead_of old (drop 1 walk)) (begun kept).some.0

    pub some_ahead : AreKept old noted count walk → (group_at old number).after ≡ [] → ⊥
    some_ahead kept = (begun kept).some.0

    pub taken_noted : (x : Entry T) → AreKept old noted count walk → HasIn x (entries_at new number) (entries_at old number) → AreNoted new noted
    taken_noted x kept group = noted_take old new noted number x others group kept.index

    pub taken_more : (x : Entry T) → AreKept old noted count walk → HasIn x (held new) (held old) → HasOneMoreEntry x (by_place (held new)) (by_place (held old))
    taken_more x kept all = by_place_more x (held new) (held old) all kept.apart

    -- what was ahead, where it was taken
    pub taken_ahead : (r : Option (Entry T)) → (group_at old number).after ≡ option_to_list r ++ (group_at new number).after
        → ahead_of old walk ≡ option_to_list r ++ ((group_at new number).after ++ ahead_of old (drop 1 walk))
    taken_ahead r after =
        first_ahead ∙ ap (λ (l : List (Entry T)). l ++ ahead_of old (drop 1 walk)) after ∙ joined r (group_at new number).after
      where
        joined : (o : Option (Entry T)) (xs : List (Entry T)) → (option_to_list o ++ xs) ++ ahead_of old (drop 1 walk) ≡ option_to_list o ++ (xs ++ ahead_of old (drop 1 walk))
        joined None xs = refl
        joined (Some y) xs = refl
