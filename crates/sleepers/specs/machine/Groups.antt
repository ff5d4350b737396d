-- Entries in groups, each of which has a cursor.
use Rattle.enf_data.specs.declared.events.Event.{Event}
use Rattle.enf_data.specs.meaning.Membership.{HasNoRepeats}
use Rattle.std.specs.List.{AllByRecursion, flat_map}
use Rattle.std.specs.Ordering.{is_lt}
use Rattle.std.specs.Prelude.{◌≡◌, ℕ, ◌⊎◌, cond, List, [], ◌∷◌, ◌++◌, None, Contains, length}
use Rattle.std.specs.Prelude.{slice_index_or}
use Rattle.cursor_list.specs.machine.Split.{Split, items}
use Rattle.sleepers.specs.declared.entries.Entry.{Entry}
use Rattle.sleepers.specs.machine.Entries.{IsAsleep, entry_places}
use Rattle.sleepers.specs.machine.NotedGroups.{CanBeFound, Noted}
use Rattle.sleepers.specs.machine.Places.{place_cmp}

module _ {T : Type 0} where
  -- a list of entries in the order of their places
  abbrev pub put_by_place : Entry T → List (Entry T) → List (Entry T)
  put_by_place entry [] = entry ∷ []
  put_by_place entry (x ∷ xs) =
      cond (is_lt (place_cmp entry.place x.place)) (entry ∷ x ∷ xs) (x ∷ put_by_place entry xs)

  abbrev pub by_place : List (Entry T) → List (Entry T)
  by_place [] = []
  by_place (x ∷ xs) = put_by_place x (by_place xs)

  -- the group of a number, without entries where there is none
  abbrev pub group_at : List (Split (Entry T)) → ℕ → Split (Entry T)
  group_at groups number = slice_index_or groups number (record { before = []; after = [] })

  abbrev pub entries_at : List (Split (Entry T)) → ℕ → List (Entry T)
  entries_at groups number = items (group_at groups number)

  -- all entries, group by group
  abbrev pub held : List (Split (Entry T)) → List (Entry T)
  held groups = flat_map items groups

  -- the entries of some groups
  abbrev pub entries_of : List (Split (Entry T)) → List ℕ → List (Entry T)
  entries_of groups numbers = flat_map (entries_at groups) numbers

  -- what is after the cursors of some groups
  abbrev pub ahead_of : List (Split (Entry T)) → List ℕ → List (Entry T)
  ahead_of groups numbers = flat_map (λ number. (group_at groups number).after) numbers

  -- the second list has one entry more
  pub record HasIn (entry : Entry T) (fewer more : List (Entry T)) : Type 0 where
    pub front : List (Entry T)
    pub back : List (Entry T)
    pub fewer_is : fewer ≡ front ++ back
    pub more_is : more ≡ front ++ entry ∷ back

  -- all groups but one are as they were
  abbrev pub OthersStay : ℕ → (old new : List (Split (Entry T))) → Type 0
  OthersStay number old new = (other : ℕ) → (other ≡ number → ⊥) → group_at new other ≡ group_at old other

  -- each group is as it was
  pub record StayGroups (old new : List (Split (Entry T))) : Type 0 where
    pub each : (number : ℕ) → group_at new number ≡ group_at old number
    pub all : held new ≡ held old

  -- the two sleep at the same steps
  pub record WakeAlike (x y : Entry T) : Type 0 where
    pub patterns : x.patterns ≡ y.patterns
    pub end : (x.patterns ≡ None) ⊎ (x.end ≡ y.end)

  -- entries that sleep at the same steps
  abbrev pub AreAlike : List (Entry T) → Type 0
  AreAlike entries = (x y : Entry T) → Contains entries x → Contains entries y → WakeAlike x y

  -- each entry's group can be found under what wakes it, and those of a group sleep at the same steps
  pub record AreNoted (groups : List (Split (Entry T))) (noted : Noted) : Type 0 where
    pub found : (number : ℕ) (entry : Entry T) → Contains (entries_at groups number) entry
        → CanBeFound noted number entry.patterns entry.end
    pub alike : (number : ℕ) → AreAlike (entries_at groups number)

  -- an entry can go into the group
  pub record Suits (groups : List (Split (Entry T))) (noted : Noted) (number : ℕ) (entry : Entry T) : Type 0 where
    pub found : CanBeFound noted number entry.patterns entry.end
    pub alike : (x : Entry T) → Contains (entries_at groups number) x → WakeAlike x entry

  -- the group has entries, and none of them sleeps
  pub record StandsAwake (events : List Event) (time : ℕ) (groups : List (Split (Entry T))) (number : ℕ)
      : Type 0 where
    pub some : entries_at groups number ≡ [] → ⊥
    pub none : (entry : Entry T) → Contains (entries_at groups number) entry → IsAsleep events time entry → ⊥

  -- all entries of the group sleep
  abbrev pub StandsAsleep : (events : List Event) (time : ℕ) → List (Split (Entry T)) → ℕ → Type 0
  StandsAsleep events time groups number =
      (entry : Entry T) → Contains (entries_at groups number) entry → IsAsleep events time entry

  -- each group is one of these, once, or its entries sleep
  pub record AreAwake (events : List Event) (time : ℕ) (groups : List (Split (Entry T))) (numbers : List ℕ)
      : Type 0 where
    pub once : HasNoRepeats numbers
    pub awake : AllByRecursion (StandsAwake events time groups) numbers
    pub others : (number : ℕ) (entry : Entry T) → Contains (entries_at groups number) entry
        → Contains numbers number ⊎ IsAsleep events time entry

  -- each of these groups is awake at the step, and the entries of the others sleep, as far as some of its events tell
  pub record AreAwakeBy (events told : List Event) (time : ℕ) (groups : List (Split (Entry T))) (numbers : List ℕ)
      : Type 0 where
    pub awake : (number : ℕ) → Contains numbers number → StandsAwake events time groups number
    pub others : (number : ℕ) (entry : Entry T) → Contains (entries_at groups number) entry
        → Contains numbers number ⊎ IsAsleep told time entry

  -- the entries of the groups that are awake
  pub record IsOfAwake (events : List Event) (time : ℕ) (groups : List (Split (Entry T))) (entries : List (Entry T))
      : Type 0 where
    pub numbers : List ℕ
    pub awake : AreAwake events time groups numbers
    pub are : entries ≡ entries_of groups numbers

  -- the cursors of these groups stand in front of all entries, which stay
  pub record AreRewound (numbers : List ℕ) (old new : List (Split (Entry T))) : Type 0 where
    pub after : AllByRecursion (λ number. (group_at new number).after ≡ entries_at old number) numbers
    pub entries : (number : ℕ) → entries_at new number ≡ entries_at old number
    pub held : held new ≡ held old

  -- groups that a walk has in front of it
  pub record IsWalk (groups : List (Split (Entry T))) (numbers : List ℕ) : Type 0 where
    pub once : HasNoRepeats numbers
    pub some : AllByRecursion (λ number. (group_at groups number).after ≡ [] → ⊥) numbers

  -- what is held of the entries: how many there are, and groups that are found
  pub record AreKept (groups : List (Split (Entry T))) (noted : Noted) (count : ℕ) (numbers : List ℕ) : Type 0 where
    pub many : count ≡ length (held groups)
    pub apart : HasNoRepeats (entry_places (held groups))
    pub index : AreNoted groups noted
    pub walk : IsWalk groups numbers
