-- What the calls of an event set do to its list of events, and how it is kept.
use Rattle.enf_data.specs.declared.events.Event.{Event}
use Rattle.enf_data.specs.meaning.Membership.{HasNoRepeats, TakesOut}
use Rattle.enf_data.specs.meaning.Values.{has_event, row_cmp}
use Rattle.std.specs.List.{filter}
use Rattle.std.specs.List.Sorted.{IsStrictlySortedBy}
use Rattle.std.specs.Ordering.{nat_cmp, ordering_then}
use Rattle.std.specs.Prelude.{◌≡◌, Bool, true, false, List, [], ◌∷◌, ◌++◌, Contains, not}
use Rattle.std.specs.declared.cmp.Ordering.{Ordering}

-- what an insertion of x does: x goes last where it was not there, which the answer says, and else nothing changes
pub record InsertsItem {X : Type 0} (x : X) (before : List X) (new : Bool) (after : List X) : Type 0 where
  pub absent : new ≡ true → (Contains before x → ⊥) × (after ≡ before ++ x ∷ [])
  pub present : new ≡ false → Contains before x × (after ≡ before)

-- items put one after another after those before them, each where it is not there already
abbrev pub InsertsEach : {X : Type 0} → List X → List X → List X → Type 0
InsertsEach before [] after = after ≡ before
InsertsEach {X = X} before (x ∷ xs) after =
    (new : Bool) × (next : List X) × InsertsItem x before new next × InsertsEach next xs after

-- what a removal of x does: it takes x out where it was there, which the answer says, and else nothing changes
pub record RemovesItem {X : Type 0} (x : X) (before : List X) (found : Bool) (after : List X) : Type 0 where
  pub present : found ≡ true → TakesOut x before after
  pub absent : found ≡ false → (Contains before x → ⊥) × (after ≡ before)

-- the events of the first list that are not in the second, in their order
abbrev pub without_events : (events gone : List Event) → List Event
without_events events gone = filter (λ event. not (has_event gone event)) events

-- items are taken out one after another, all of which are there
abbrev pub TakesOutEach : {X : Type 0} → (before : List X) → List X → (after : List X) → Type 0
TakesOutEach before [] after = after ≡ before
TakesOutEach {X = X} before (x ∷ xs) after = (next : List X) × TakesOut x before next × TakesOutEach next xs after

-- to take events out one after another leaves those that are none of them
abbrev pub TakenOutAreGone : Type 0
TakenOutAreGone = (before gone after : List Event) → HasNoRepeats before → TakesOutEach before gone after
    → after ≡ without_events before gone

-- the order of events: by the numbers of their names, and then by their arguments
abbrev pub event_order : Event → Event → Ordering
event_order a b = ordering_then (nat_cmp a.name.0 b.name.0) (row_cmp a.args b.args)

-- each event is before those after it
abbrev pub AreRisingEvents : List Event → Type 0
AreRisingEvents events = IsStrictlySortedBy event_order events
