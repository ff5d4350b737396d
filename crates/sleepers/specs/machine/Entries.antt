-- Entries that sleep, lists of them in the order of their places, and a walk over those that are awake.
use Rattle.enf_data.specs.declared.events.Event.{Event}
use Rattle.enf_data.specs.meaning.Membership.{HasNoRepeats}
use Rattle.std.specs.Borrow.{Bor}
use Rattle.std.specs.Prelude.{◌≡◌, ℕ, ◌<◌, List, ◌∷◌, ◌++◌, Some, Contains, map, ◌⊎◌, []}
use Rattle.sleepers.specs.declared.entries.Entry.{Entry}
use Rattle.sleepers.specs.declared.patterns.Pattern.{Pattern}
use Rattle.sleepers.specs.machine.Patterns.{HasNone}
use Rattle.sleepers.specs.machine.Places.{ArePlacesInOrder, Place}

module _ {T : Type 0} where
  -- no event is of one of its patterns, and its end is not reached
  pub record IsAsleep (events : List Event) (time : ℕ) (entry : Entry T) : Type 0 where
    pub patterns : List Pattern
    pub waits : entry.patterns ≡ Some patterns
    pub none : HasNone patterns events
    pub in_time : time < entry.end

  abbrev pub entry_places : List (Entry T) → List Place
  entry_places entries = map (λ entry. entry.place) entries

  -- the places of the entries rise
  abbrev pub ArePlaced : List (Entry T) → Type 0
  ArePlaced entries = ArePlacesInOrder (entry_places entries)

  -- no entry has the place
  abbrev pub IsFreePlace : Place → List (Entry T) → Type 0
  IsFreePlace place entries = Contains (entry_places entries) place → ⊥

  -- the second list has one entry more, and is in order
  pub record HasOneMoreEntry (entry : Entry T) (fewer more : List (Entry T)) : Type 0 where
    pub front : List (Entry T)
    pub back : List (Entry T)
    pub fewer_is : fewer ≡ front ++ back
    pub more_is : more ≡ front ++ entry ∷ back
    pub placed : ArePlaced more

module _ {X : Type 0} where
  -- what references stand for
  abbrev pub shown : List (Bor X) → List X
  shown references = map (λ x. x.now) references

  -- all of a list but those of which something holds, in their order
  abbrev pub AllButThose : (X → Type 0) → (all rest : List X) → Type 0
  AllButThose Q [] rest = rest ≡ []
  AllButThose Q (x ∷ xs) rest =
      ((others : List X) × (Q x → ⊥) × AllButThose Q xs others × (rest ≡ x ∷ others))
      ⊎ (Q x × AllButThose Q xs rest)

  -- all of a list but those of which something holds, in any order, each once
  pub record IsAllBut (Q : X → Type 0) (all rest : List X) : Type 0 where
    pub once : HasNoRepeats rest
    pub without : (x : X) → Contains rest x → Contains all x × (Q x → ⊥)
    pub others : (x : X) → Contains all x → Contains rest x ⊎ Q x

pub record Sleeping (T : Type 0) : Type 0 where
  -- all entries, in the order of their places
  pub entries : List (Entry T)
  -- the entries that the walk has not passed yet
  pub ahead : List (Entry T)
