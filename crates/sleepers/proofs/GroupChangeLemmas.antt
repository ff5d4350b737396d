-- A group that changes at its cursor.
use Rattle.sleepers.proofs.Vocabulary.{◌≡◌, ℕ, ◌<◌, Bool, true, false, true≢false, not, List, [], ◌∷◌, ◌++◌, Option, None, Some, IfSome, IfNone, IsNone, refl, sym, ap, subst, ◌∙◌, append_assoc}
use Rattle.sleepers.proofs.Vocabulary.{append-nil, drop, take, get_or, length, set, option_to_list, get_or_default, set-get_or, Split, items, HasIn, entries_at, group_at, held, Entry}
use Rattle.sleepers.proofs.GroupLemmas.{at_set, held_fewer, held_more, held_set}

module _ {T : Type 0} (groups : List (Split (Entry T))) (number : ℕ) (old new : Split (Entry T)) (within : number < length groups)
    (read : old ≡ get_or groups number old) where
  is_at : group_at groups number ≡ old
  is_at = get_or_default groups number (record { before = []; after = [] }) old within ∙ sym read

  entries_are : entries_at groups number ≡ items old
  entries_are = ap items is_at

  same_items : (before after : List (Entry T)) → (before ++ take 1 after) ++ drop 1 after ≡ before ++ after
  same_items before [] = append_assoc before [] []
  same_items before (x ∷ after) = append_assoc before (x ∷ []) after

  pub passed_held : new.before ≡ old.before ++ take 1 old.after → new.after ≡ drop 1 old.after → held (set groups number new) ≡ held groups
  passed_held before after =
      held_set groups number new ((λ i. before i ++ after i) ∙ same_items old.before old.after ∙ sym entries_are)

  pub rewound_held : new.before ≡ [] → new.after ≡ items old → held (set groups number new) ≡ held groups
  rewound_held before after = held_set groups number new ((λ i. before i ++ after i) ∙ sym entries_are)

  put_items : (x : Entry T) → new.before ≡ old.before → new.after ≡ old.after ++ x ∷ [] → HasIn x (entries_at groups number) (items new)
  put_items x before after = record {
    front = items old;
    back = [];
    fewer_is = entries_are ∙ sym (append-nil (items old));
    more_is = (λ i. before i ++ after i) ∙ sym (append_assoc old.before old.after (x ∷ []));
  }

  pub put_held : (x : Entry T) → new.before ≡ old.before → new.after ≡ old.after ++ x ∷ [] → HasIn x (held groups) (held (set groups number new))
  put_held x before after = held_more groups number new x within (put_items x before after)

  pub put_group : (x : Entry T) → new.before ≡ old.before → new.after ≡ old.after ++ x ∷ []
      → HasIn x (entries_at groups number) (entries_at (set groups number new) number)
  put_group x before after =
      subst (λ (s : Split (Entry T)). HasIn x (entries_at groups number) (items s)) (sym (at_set groups number new within)) (put_items x before after)

  take_items : (x : Entry T) → new.before ≡ old.before → old.after ≡ x ∷ new.after → HasIn x (items new) (entries_at groups number)
  take_items x before after = record {
    front = new.before;
    back = new.after;
    fewer_is = refl;
    more_is = entries_are ∙ (λ i. sym before i ++ after i);
  }

  pub take_held : (r : Option (Entry T)) → new.before ≡ old.before → old.after ≡ option_to_list r ++ new.after
      → IfSome r (λ x. HasIn x (held (set groups number new)) (held groups))
  take_held None before after = tt
  take_held (Some x) before after = held_fewer groups number new x within (take_items x before after)

  pub take_none : (r : Option (Entry T)) → new.before ≡ old.before → old.after ≡ option_to_list r ++ new.after
      → (IsNone r → old.after ≡ []) × (old.after ≡ [] → IsNone r) → IfNone r (((group_at groups number).after ≡ []) × (set groups number new ≡ groups))
  take_none None before after none =
      let same : new ≡ get_or groups number old = (λ i. record { before = before i; after = sym after i }) ∙ read in (
        ap (λ (s : Split (Entry T)). s.after) is_at ∙ none.0 refl,
        ap (λ (s : Split (Entry T)). set groups number s) same ∙ set-get_or groups number old,
      )
  take_none (Some x) before after none = tt

pub holds_not : (b : Bool) (Q : Type 0) → (b ≡ true → Q) × (Q → b ≡ true) → not b ≡ true → Q → ⊥
holds_not true Q tells is q = absurd (true≢false (sym is))
holds_not false Q tells is q = true≢false (sym (tells.1 q))

pub holds : (b : Bool) (Q : Type 0) → (b ≡ true → Q) × (Q → b ≡ true) → not b ≡ false → Q
holds true Q tells is = tells.0 refl
holds false Q tells is = absurd (true≢false is)
