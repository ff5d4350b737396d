-- Pending instances as entries that sleep until an event or a moment wakes them.
use Rattle.std.specs.List.{AllByRecursion}
use Rattle.std.specs.Prelude.{List, ℕ, suc, [], ◌∷◌, ◌++◌, map, ◌-◌, ◌^◌}
use Rattle.plan_terms.specs.meaning.Plans.{Plan}
use Rattle.sleepers.specs.declared.entries.Entry.{Entry}
use Rattle.sleepers.specs.machine.Entries.{ArePlaced}
use Rattle.sleepers.specs.machine.Places.{Place, beginning_at, WasMade}
use Rattle.obligations.specs.declared.instances.Instance.{Instance}
use Rattle.pending.specs.machine.Waits.{Listed, patterns_at, until_at}

-- the entry of an instance at a place that is filed at a time: the events that can change it wake it, and the moment up
-- to which it waits
abbrev pub entry_at : List Plan → (time : ℕ) → Place → Instance → Entry Instance
entry_at plans time place i =
    record { place = place; patterns = patterns_at plans time i; end = until_at time i; item = i }

-- the entries of instances that are filed at a time, of one beginning after a place, counted from k on
abbrev pub entries_from : List Plan → (time : ℕ) → Place → (number k : ℕ) → List Instance → List (Entry Instance)
entries_from plans time place number k [] = []
entries_from plans time place number k (i ∷ instances) =
    entry_at plans time (place ++ beginning_at number k ∷ []) i ∷ entries_from plans time place number (suc k) instances

abbrev pub items_of : List (Entry Instance) → List Instance
items_of entries = map (λ entry. entry.item) entries

-- an entry as its instance with what it waits for
abbrev pub listed_of : Entry Instance → Listed
listed_of entry = record { wait = record { patterns = entry.patterns; until = entry.end }; instance = entry.item }

abbrev pub all_listed : List (Entry Instance) → List Listed
all_listed entries = map listed_of entries

-- at later beginnings an entry can go on from its place
pub record FitsStep (steps : ℕ) (entry : Entry Instance) : Type 0 where
  pub made : WasMade steps (2 ^ 64 - 1 - steps) entry.place

-- entries after so many steps
pub record ArePendingEntries (steps : ℕ) (entries : List (Entry Instance)) : Type 0 where
  pub placed : ArePlaced entries
  pub fit : AllByRecursion (FitsStep steps) entries
