-- Entries that are looked at one after another, and those that an event rouses.
use Rattle.enf_data.specs.declared.events.Event.{Event}
use Rattle.std.specs.Prelude.{◌≡◌, ◌⊎◌, ℕ, ◌≤◌, List, [], ◌∷◌, Some, Contains, drop, length}
use Rattle.std.specs.Prelude.{take}
use Rattle.sleepers.specs.declared.entries.Entry.{Entry}
use Rattle.sleepers.specs.declared.patterns.Pattern.{Pattern}
use Rattle.sleepers.specs.machine.NotedGroups.{IsContainedIn}
use Rattle.sleepers.specs.machine.Patterns.{HasNone}
use Rattle.sleepers.specs.machine.Places.{IsPlaceBefore, Place}

module _ {T : Type 0} where
  -- those with one place are one
  abbrev pub HaveOwnPlaces : List (Entry T) → Type 0
  HaveOwnPlaces entries =
      (x y : Entry T) → Contains entries x → Contains entries y → x.place ≡ y.place → x ≡ y

  -- after so many entries there is room for the place
  pub record IsGapFor (place : Place) (entries : List (Entry T)) (at : ℕ) : Type 0 where
    pub within : at ≤ length entries
    pub front : (x : Entry T) → Contains (take at entries) x → IsPlaceBefore x.place place
    pub back : (x : Entry T) → Contains (drop at entries) x → IsPlaceBefore place x.place

  -- the event is of none of the patterns that wake the entry
  abbrev pub LeavesAsleep : Event → Entry T → Type 0
  LeavesAsleep event entry =
      (patterns : List Pattern) → entry.patterns ≡ Some patterns → HasNone patterns (event ∷ [])

  -- some entries, among them each of which a pattern matches the event
  pub record IsRousedOf (event : Event) (all some : List (Entry T)) : Type 0 where
    pub among : IsContainedIn some all
    pub roused : (x : Entry T) → Contains all x → Contains some x ⊎ LeavesAsleep event x

  -- all that were there are still there, each of all the entries of which a pattern matches the event is, and maybe
  -- others of them
  pub record Rouses (event : Event) (all before after : List (Entry T)) : Type 0 where
    pub kept : IsContainedIn before after
    pub among : IsContainedIn after all
    pub roused : (x : Entry T) → Contains all x → Contains after x ⊎ LeavesAsleep event x
