-- The events of a step in the order of their names and arguments, and the rows of their arguments.
use Rattle.enf_data.specs.declared.events.Event.{Event}
use Rattle.enf_data.specs.declared.terms.VarId.{VarId}
use Rattle.enf_data.specs.declared.values.Value.{Value}
use Rattle.enf_data.specs.meaning.Values.{row_cmp}
use Rattle.std.specs.Borrow.{Bor}
use Rattle.std.specs.List.Sorted.{IsSortedByKey}
use Rattle.std.specs.Ordering.{nat_cmp, ordering_then}
use Rattle.std.specs.Prelude.{ℕ, suc, List, [], ◌∷◌, map, ◌↔◌, ◌≡◌, Contains, take, ◌≤◌, ⊤}
use Rattle.std.specs.Prelude.{Option, None, Some}
use Rattle.std.specs.declared.cmp.Ordering.{Ordering}
use Rattle.valuations.specs.machine.Tables.{Relation}
use Rattle.monitorable_guard.specs.declared.events.ByName.{ByName}
use Rattle.monitorable_guard.specs.declared.events.ByName.TheVariants.{Few, Many}

-- the number of the event's name
abbrev pub name_of : Bor Event → ℕ
name_of event = event.now.name.0

-- the number of the event's name, and the arguments
abbrev pub key_of : Bor Event → ℕ × List Value
key_of event = (event.now.name.0, event.now.args)

-- the order of events: by the name, and then by the arguments
abbrev pub event_cmp : ℕ × List Value → ℕ × List Value → Ordering
event_cmp a b = ordering_then (nat_cmp a.0 b.0) (row_cmp a.1 b.1)

-- the events after references
abbrev pub shown_events : List (Bor Event) → List Event
shown_events events = map (λ event. event.now) events

-- the events of a list are those of the step, and do not fall by their names and arguments
pub record IsByName (events : List Event) (listed : List (Bor Event)) : Type 0 where
  pub order : IsSortedByKey key_of event_cmp listed
  pub same : (event : Event) → Contains (shown_events listed) event ↔ Contains events event

-- the events in order: so many of a few places, or all of many
abbrev pub listed : ByName → List (Bor Event)
listed (Few few) = take few.count few.places
listed (Many order) = order.items

-- so many events are no more than the few places
abbrev pub HasItsEvents : ByName → Type 0
HasItsEvents (Few few) = few.count ≤ 4
HasItsEvents (Many order) = ⊤

-- the arguments of the events after references
abbrev pub arguments : List (Bor Event) → List (List Value)
arguments events = map (λ event. event.now.args) events

-- the rows of a table, or else the arguments of events, under columns
abbrev pub kept_rows : Option Relation → List VarId → List (Bor Event) → Relation
kept_rows (Some table) columns events = table
kept_rows None columns events = record { columns = columns; rows = arguments events }

-- the arguments begin with the values that are known, up to the first that is not
abbrev pub BeginAsKnown : List (Option Value) → List Value → Type 0
BeginAsKnown [] args = Unit {0}
BeginAsKnown (None ∷ known) args = Unit {0}
BeginAsKnown (Some value ∷ known) [] = ⊥
BeginAsKnown (Some value ∷ known) (arg ∷ args) = (arg ≡ value) × BeginAsKnown known args

-- how many values are known before the first that is not
abbrev pub leading_known : List (Option Value) → ℕ
leading_known [] = 0
leading_known (None ∷ known) = 0
leading_known (Some value ∷ known) = suc (leading_known known)
