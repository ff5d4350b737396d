-- The events of a step while some go and others come.
use Rattle.choice_step.proofs.Vocabulary.{◌≡◌, ◌∙◌, Bool, true, false, List, [], ◌∷◌, ◌++◌, Contains, refl, sym, ap, subst, cond, Event, TakesOut, HasNoRepeats, without_events}
use Rattle.std.specs.List.{filter}
use Rattle.std.specs.Prelude.{not}
use Rattle.enf_data.proofs.Lists.{HasNoRepeats-filter}
use Rattle.enf_data.proofs.RemovalLemmas.{left_is, none_gone, one_out}
use Rattle.enf_data.proofs.ValueEquality.{has_event-Decides}
use Rattle.enf_data.specs.machine.EventSets.{InsertsItem, RemovesItem}
use Rattle.enf_data.specs.meaning.Values.{has_event}

filter_push : {X : Type 0} (p : X → Bool) (xs : List X) (x : X) → p x ≡ true → filter p (xs ++ x ∷ []) ≡ filter p xs ++ x ∷ []
filter_push p [] x keeps = ap (λ b. cond b (x ∷ []) []) keeps
filter_push p (y ∷ xs) x keeps = by (p y) (filter_push p xs x keeps)
  where
    by : (b : Bool) → filter p (xs ++ x ∷ []) ≡ filter p xs ++ x ∷ []
        → cond b (y ∷ filter p (xs ++ x ∷ [])) (filter p (xs ++ x ∷ [])) ≡ cond b (y ∷ filter p xs) (filter p xs) ++ x ∷ []
    by true rest = ap (λ l. y ∷ l) rest
    by false rest = rest

not_gone : (gone : List Event) (event : Event) → (Contains gone event → ⊥) → not (has_event gone event) ≡ true
not_gone gone event absent = by (has_event gone event) refl
  where
    by : (b : Bool) → has_event gone event ≡ b → not b ≡ true
    by true is = absurd (absent ((has_event-Decides gone event).0 is))
    by false is = refl

-- one that was absent goes last
pub comes_last : (events gone after : List Event) (event : Event) (new : Bool) → (Contains (without_events events gone) event → ⊥) → (Contains gone event → ⊥)
    → InsertsItem event events new after → without_events after gone ≡ without_events events gone ++ event ∷ []
comes_last events gone after event true absent stays inserts =
    ap (λ l. without_events l gone) (inserts.absent refl).1
    ∙ filter_push (λ e. not (has_event gone e)) events event (not_gone gone event stays)
comes_last events gone after event false absent stays inserts =
    absurd (absent ((left_is events gone event).1 ((inserts.present refl).0, stays)))

-- one that was there is taken out at once, where none is gone
pub taken_at_once : (events gone after : List Event) (event : Event) (found : Bool) → gone ≡ [] → Contains (without_events events gone) event
    → RemovesItem event events found after → TakesOut event (without_events events gone) (without_events after gone)
taken_at_once events gone after event true none there removes =
    subst (λ (g : List Event). TakesOut event (without_events events g) (without_events after g)) (sym none)
    (subst (λ l. TakesOut event l (without_events after [])) (sym (none_gone events))
    (subst (TakesOut event events) (sym (none_gone after)) (removes.present refl)))
taken_at_once events gone after event false none there removes =
    absurd ((removes.absent refl).0 ((left_is events gone event).0 there).0)

-- and else it is noted
pub taken_by_note : (events gone after : List Event) (event : Event) (new : Bool) → HasNoRepeats events → Contains (without_events events gone) event
    → InsertsItem event gone new after → TakesOut event (without_events events gone) (without_events events after)
taken_by_note events gone after event true distinct there inserts =
    subst (λ (g : List Event). TakesOut event (without_events events gone) (without_events events g)) (sym (inserts.absent refl).1)
    (one_out events gone event distinct there)
taken_by_note events gone after event false distinct there inserts =
    absurd (((left_is events gone event).0 there).1 (inserts.present refl).0)

-- none of what there is stands twice
pub kept_distinct : (events gone : List Event) → HasNoRepeats events → HasNoRepeats (without_events events gone)
kept_distinct events gone distinct = HasNoRepeats-filter (λ e. not (has_event gone e)) events distinct
