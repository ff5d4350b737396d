-- How an event set is kept: a few events by themselves, some that rise, more of them with a table.
use Rattle.enf_data.specs.declared.event_sets.Stored.{Stored}
use Rattle.enf_data.specs.declared.event_sets.Stored.TheVariants.{Few, Rising, Many}
use Rattle.enf_data.specs.declared.events.Event.{Event}
use Rattle.enf_data.specs.machine.EventSets.{AreRisingEvents}
use Rattle.std.specs.Prelude.{List, ⊤}

-- the events, in the order in which they came
abbrev pub stored_events : Stored → List Event
stored_events (Few events) = events.items
stored_events (Rising events) = events.items
stored_events (Many table) = table.value.keys

-- those that are said to rise do
abbrev pub RiseAsSaid : Stored → Type 0
RiseAsSaid (Few events) = ⊤
RiseAsSaid (Rising events) = AreRisingEvents events.items
RiseAsSaid (Many table) = ⊤
