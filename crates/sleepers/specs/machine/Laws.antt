-- That steps keep the order of places, and what they begin can be put in.
use Rattle.enf_data.specs.declared.events.Event.{Event}
use Rattle.std.specs.List.{AllByRecursion}
use Rattle.std.specs.Prelude.{◌≡◌, ◌↔◌, List, Contains, ℕ, [], ◌++◌, map, suc, ◌<◌}
use Rattle.sleepers.specs.declared.entries.Entry.{Entry}
use Rattle.sleepers.specs.machine.Entries.{IsAsleep, ArePlaced}
use Rattle.sleepers.specs.machine.EntrySteps.{CanPutIn, EntryOutcome, begun_entries, IsStep, PutsInEntries, IsInOrder}
use Rattle.sleepers.specs.machine.Places.{Place, ArePlacesInOrder, WasMade, places_from, PlaceChange, places_behind}

-- ---- laws

-- lists in order with the same places are the same
abbrev pub OneOrder : Type 0
OneOrder = (ps qs : List Place) → ArePlacesInOrder ps → ArePlacesInOrder qs
    → ((p : Place) → Contains ps p ↔ Contains qs p) → ps ≡ qs

-- what becomes of each, and after it so many that are begun anew, is in order where the entries were
abbrev pub StepsKeepOrder : Type 0
StepsKeepOrder = (first later count : ℕ) (changes : List PlaceChange)
    → ArePlacesInOrder (map (λ c. c.place) changes)
    → AllByRecursion (λ c. WasMade first later c.place) changes
    → ArePlacesInOrder (places_behind later changes ++ places_from [] first 0 count)

-- ---- laws

-- what is begun at a step can be put in
abbrev pub StepsCanPutIn : (T : Type 0) → Type 0
StepsCanPutIn T = (events : List Event) (time first later : ℕ) (all : List (Entry T))
    (outcomes : List (EntryOutcome T))
    (left anew : List (Entry T)) → IsStep first later (IsAsleep events time) all outcomes left anew
    → CanPutIn (begun_entries outcomes ++ anew) left

-- after a step, what is there is what became of each entry, in the order in which the entries were
abbrev pub StepsGoInOrder : (T : Type 0) → Type 0
StepsGoInOrder T = (events : List Event) (time first later : ℕ) (all : List (Entry T))
    (outcomes : List (EntryOutcome T))
    (left anew grown : List (Entry T)) → IsStep first later (IsAsleep events time) all outcomes left anew
    → PutsInEntries (begun_entries outcomes ++ anew) left grown
    → IsInOrder (IsAsleep events time) all outcomes anew grown

-- after a step, all that is there was made by then, so that the next step can begin with it
abbrev pub StepsAreMade : (T : Type 0) → Type 0
StepsAreMade T = (events : List Event) (time first later next : ℕ) (all : List (Entry T))
    (outcomes : List (EntryOutcome T)) (left anew grown : List (Entry T))
    → IsStep first later (IsAsleep events time) all outcomes left anew
    → PutsInEntries (begun_entries outcomes ++ anew) left grown → next < later
    → ArePlaced grown × AllByRecursion (λ entry. WasMade (suc first) next entry.place) grown
