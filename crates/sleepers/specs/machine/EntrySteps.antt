-- A step over entries: those that are awake stay or go, and others that were begun for them are put in.
use Rattle.std.specs.List.{AllByRecursion}
use Rattle.std.specs.Prelude.{◌≡◌, List, [], ◌∷◌, Bool, ℕ, true, cond, ◌⊎◌, ◌++◌, Contains}
use Rattle.std.specs.Prelude.{length, map}
use Rattle.sleepers.specs.declared.entries.Entry.{Entry}
use Rattle.sleepers.specs.machine.Entries.{HasOneMoreEntry, IsFreePlace, ArePlaced, IsAllBut, entry_places}
use Rattle.sleepers.specs.machine.Places.{WasMade, places_from}

module _ {T : Type 0} where
  -- these are taken out one after another
  abbrev pub TakesOutEntries : (gone_entries all left : List (Entry T)) → Type 0
  TakesOutEntries [] all left = left ≡ all
  TakesOutEntries (x ∷ gone_entries) all left = (fewer : List (Entry T)) × HasOneMoreEntry x fewer all
      × TakesOutEntries gone_entries fewer left

  -- these are put in one after another
  abbrev pub PutsInEntries : (more all grown : List (Entry T)) → Type 0
  PutsInEntries [] all grown = grown ≡ all
  PutsInEntries (x ∷ more) all grown = (one : List (Entry T)) × HasOneMoreEntry x all one
      × PutsInEntries more one grown

  -- none of them comes to a place that is taken
  abbrev pub CanPutIn : (more all : List (Entry T)) → Type 0
  CanPutIn [] all = Unit {0}
  CanPutIn (x ∷ more) all =
      IsFreePlace x.place all × ((one : List (Entry T)) → HasOneMoreEntry x all one → CanPutIn more one)

-- what becomes of an entry: whether it stays, and what is begun for it
pub record EntryOutcome (T : Type 0) : Type 0 where
  pub entry : Entry T
  pub stays : Bool
  pub begun : List (Entry T)

module _ {T : Type 0} where
  -- the entries that go
  abbrev pub gone_entries : List (EntryOutcome T) → List (Entry T)
  gone_entries [] = []
  gone_entries (o ∷ outcomes) = cond o.stays [] (o.entry ∷ []) ++ gone_entries outcomes

  -- what is begun for all of them
  abbrev pub begun_entries : List (EntryOutcome T) → List (Entry T)
  begun_entries [] = []
  begun_entries (o ∷ outcomes) = o.begun ++ begun_entries outcomes

  -- what is there after the step, in order
  abbrev pub entries_behind : List (EntryOutcome T) → List (Entry T)
  entries_behind [] = []
  entries_behind (o ∷ outcomes) = (cond o.stays (o.entry ∷ []) [] ++ o.begun) ++ entries_behind outcomes

  -- what is begun for an entry goes on from its place at one beginning
  abbrev pub OutcomeGoesOn : (later : ℕ) → EntryOutcome T → Type 0
  OutcomeGoesOn later o = entry_places o.begun ≡ places_from o.entry.place later 0 (length o.begun)

  -- a step: of the entries some were looked at, and nothing becomes of the others; what is begun anew goes after all
  pub record IsStep (first later : ℕ) (Q : Entry T → Type 0) (all : List (Entry T))
      (outcomes : List (EntryOutcome T))
      (left anew : List (Entry T)) : Type 0 where
    pub placed : ArePlaced all
    pub made : AllByRecursion (λ entry. WasMade first later entry.place) all
    pub looked_at : IsAllBut Q all (map (λ o. o.entry) outcomes)
    pub go_on : AllByRecursion (OutcomeGoesOn later) outcomes
    pub taken_out : TakesOutEntries (gone_entries outcomes) all left
    pub first_beginning : entry_places anew ≡ places_from [] first 0 (length anew)

  -- an outcome is one of these, or that of an entry that stays and for which nothing is begun
  abbrev pub IsOneOr : (Entry T → Type 0) → List (EntryOutcome T) → EntryOutcome T → Type 0
  IsOneOr Q outcomes o = Contains outcomes o ⊎ (Q o.entry × (o.stays ≡ true) × (o.begun ≡ []))

  -- all outcomes in the order of the entries give what was put in at last
  pub record IsInOrder (Q : Entry T → Type 0) (all : List (Entry T)) (outcomes : List (EntryOutcome T))
      (anew grown : List (Entry T)) : Type 0 where
    pub every : List (EntryOutcome T)
    pub entries : map (λ o. o.entry) every ≡ all
    pub each : AllByRecursion (IsOneOr Q outcomes) every
    pub are : grown ≡ entries_behind every ++ anew
