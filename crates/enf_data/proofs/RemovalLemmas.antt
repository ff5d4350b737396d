-- Events that are taken out of a list one after another.
use Rattle.enf_data.proofs.Vocabulary.{◌≡◌, Bool, true, false, cond, not, ◌||◌, List, [], ◌∷◌, ◌++◌, Contains, refl, sym, ap, subst, ◌∙◌, Decides, filter, Event, event_eq, has_event, HasNoRepeats}
use Rattle.enf_data.proofs.Vocabulary.{TakesOutEach, without_events, ◌↔◌, ◌&&◌, false≢true, remove, TakesOut}
use Rattle.std.proofs.lemmas.List.Elements.{filter-append}
use Rattle.std.proofs.lemmas.List.Folds.{list_any-append}
use Rattle.enf_data.proofs.ListFacts.{slice_get_at}
use Rattle.enf_data.proofs.Lists.{Contains-filter, Contains-from_filter, HasNoRepeats-filter, HasNoRepeats-middle, here, later}
use Rattle.enf_data.proofs.TableKeys.{taken_out, without_middle}
use Rattle.enf_data.proofs.ValueEquality.{event_eq-Decides, has_event-Decides}

-- tests that agree on the items of a list keep the same of them
pub filter_alike : {X : Type 0} (p q : X → Bool) (xs : List X) → ((x : X) → Contains xs x → p x ≡ q x) → filter p xs ≡ filter q xs
filter_alike p q [] same = refl
filter_alike p q (x ∷ xs) same = λ i.
    cond (same x (here x xs) i) (x ∷ filter_alike p q xs (λ y there. same y (later y x xs there)) i)
    (filter_alike p q xs (λ y there. same y (later y x xs there)) i)

all_kept : {X : Type 0} (xs : List X) → filter (λ x. true) xs ≡ xs
all_kept [] = refl
all_kept (x ∷ xs) = ap (λ l. x ∷ l) (all_kept xs)

-- an item of a list without repeats is not among those behind it
pub not_behind : {X : Type 0} (front back : List X) (x : X) → HasNoRepeats (front ++ x ∷ back) → Contains back x → ⊥
not_behind [] back x distinct = distinct.0
not_behind (y ∷ front) back x distinct = not_behind front back x distinct.1

is_itself : (event : Event) → event_eq event event ≡ true
is_itself event = (event_eq-Decides event event).1 refl

is_another : (event other : Event) → (event ≡ other → ⊥) → event_eq event other ≡ false
is_another event other apart = by (event_eq event other) (event_eq-Decides event other)
  where
    by : (b : Bool) → Decides b (event ≡ other) → b ≡ false
    by true d = absurd (apart (d.0 refl))
    by false d = refl

-- one more that goes changes nothing where it is not there
kept_without : (x : Event) (gone events : List Event) → (Contains events x → ⊥) → without_events events (x ∷ gone) ≡ without_events events gone
kept_without x gone events absent =
    filter_alike (λ event. not (event_eq event x || has_event gone event)) (λ event. not (has_event gone event)) events
    (λ event there. ap (λ b. not (b || has_event gone event)) (is_another event x (λ same. absent (subst (Contains events) same there))))

one_gone : (x : Event) (gone front back : List Event) → HasNoRepeats (front ++ x ∷ back)
    → without_events (front ++ x ∷ back) (x ∷ gone) ≡ without_events (front ++ back) gone
one_gone x gone front back distinct =
    let keeps = λ (event : Event). not (has_event (x ∷ gone) event) in
    let kept = λ (event : Event). not (has_event gone event) in
    filter-append keeps front (x ∷ back)
    ∙ ap (λ l. filter keeps front ++ l) (ap (λ b. cond (not (b || has_event gone x)) (x ∷ filter keeps back) (filter keeps back)) (is_itself x))
    ∙ (λ i. kept_without x gone front (HasNoRepeats-middle front back x distinct) i ++ kept_without x gone back (not_behind front back x distinct) i)
    ∙ sym (filter-append kept front back)

pub each_gone : (before gone after : List Event) → HasNoRepeats before → TakesOutEach before gone after → after ≡ without_events before gone
each_gone before [] after distinct is = is ∙ sym (all_kept before)
each_gone before (x ∷ gone) after distinct (next, taken, rest) =
    let was : HasNoRepeats (taken.front ++ x ∷ taken.back) = subst HasNoRepeats taken.was distinct in
    let now : HasNoRepeats next = subst HasNoRepeats (sym taken.is) (without_middle taken.front taken.back x was) in
    each_gone next gone after now rest
    ∙ ap (λ l. without_events l gone) taken.is
    ∙ sym (one_gone x gone taken.front taken.back was)
    ∙ sym (ap (λ l. without_events l (x ∷ gone)) taken.was)

-- ---- what is left

pub none_gone : (events : List Event) → without_events events [] ≡ events
none_gone events = all_kept events

pub left_is : (before gone : List Event) (event : Event)
    → Contains (without_events before gone) event ↔ (Contains before event × (Contains gone event → ⊥))
left_is before gone event = (
  λ there.
      let kept = Contains-from_filter (λ e. not (has_event gone e)) before event there in
      (kept.0, λ away. false≢true (sym (ap not ((has_event-Decides gone event).1 away)) ∙ kept.1)),
  λ both. Contains-filter (λ e. not (has_event gone e)) before event both.0 (ap not (none (has_event gone event) (has_event-Decides gone event) both.1)),
)
  where
    none : (b : Bool) → Decides b (Contains gone event) → (Contains gone event → ⊥) → b ≡ false
    none true d absent = absurd (absent (d.0 refl))
    none false d absent = refl

-- a test after another is both
filter_twice : {X : Type 0} (p q r : X → Bool) → ((x : X) → r x ≡ (p x && q x)) → (xs : List X) → filter q (filter p xs) ≡ filter r xs
filter_twice p q r both [] = refl
filter_twice p q r both (x ∷ xs) = by (p x) refl (filter_twice p q r both xs)
  where
    by : (b : Bool) → p x ≡ b → filter q (filter p xs) ≡ filter r xs
        → filter q (cond b (x ∷ filter p xs) (filter p xs)) ≡ cond (r x) (x ∷ filter r xs) (filter r xs)
    by true e rest = λ i. cond (sym (both x ∙ ap (λ b. b && q x) e) i) (x ∷ rest i) (rest i)
    by false e rest = rest ∙ ap (λ b. cond b (x ∷ filter r xs) (filter r xs)) (sym (both x ∙ ap (λ b. b && q x) e))

without_one_more : (before gone : List Event) (event : Event)
    → without_events (without_events before gone) (event ∷ []) ≡ without_events before (gone ++ event ∷ [])
without_one_more before gone event =
    filter_twice (λ e. not (has_event gone e)) (λ e. not (has_event (event ∷ []) e)) (λ e. not (has_event (gone ++ event ∷ []) e))
    (λ e. ap not (list_any-append (event_eq e) gone (event ∷ [])) ∙ either (has_event gone e) (has_event (event ∷ []) e)) before
  where
    either : (a b : Bool) → not (a || b) ≡ (not a && not b)
    either true b = refl
    either false b = refl

-- an event that is left is taken out where it goes too
pub one_out : (before gone : List Event) (event : Event) → HasNoRepeats before → Contains (without_events before gone) event
    → TakesOut event (without_events before gone) (without_events before (gone ++ event ∷ []))
one_out before gone event distinct (place, within, is) =
    let left = without_events before gone in
    let taken = taken_out left place event (slice_get_at left place event within (sym is)) in
    subst (TakesOut event left)
    (each_gone left (event ∷ []) (remove left place) (HasNoRepeats-filter (λ e. not (has_event gone e)) before distinct) (remove left place, taken, refl)
    ∙ without_one_more before gone event) taken
