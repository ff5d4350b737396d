-- Rules at positions for which something is still asked, each in a slot, and which of them a step wakes.
use Rattle.std.specs.List.{flat_map}
use Rattle.std.specs.Option.{option_to_list}
use Rattle.std.specs.Prelude.{◌≡◌, ◌⊎◌, ℕ, List, [], ◌∷◌, Option, Some, Contains, slice_get}
use Rattle.sleepers.specs.declared.entries.Entry.{Entry}
use Rattle.sleepers.specs.machine.Places.{Place, beginning_at}
use Rattle.trace_audit.specs.declared.open_rules.OpenRule.{OpenRule}
use Rattle.trace_audit.specs.machine.Moments.{AuditMoment}
use Rattle.trace_audit.specs.machine.Waiting.{StaysAsked, WaitsForEvents}

-- what stands in slots
abbrev pub open_in : List (Option OpenRule) → List OpenRule
open_in slots = flat_map option_to_list slots

-- where the entry for a slot stands
abbrev pub slot_place : ℕ → Place
slot_place slot = beginning_at slot 0 ∷ []

-- the entry is for a slot in which a rule stands, and has the patterns for which that waits
pub record IsForSlot (slots : List (Option OpenRule)) (entry : Entry ℕ) : Type 0 where
  pub item : OpenRule
  pub there : slice_get slots entry.item ≡ Some (Some item)
  pub placed : entry.place ≡ slot_place entry.item
  pub waits : WaitsForEvents item.rest entry.patterns

-- so is each entry, and each rule has one
pub record AreForSlots (slots : List (Option OpenRule)) (entries : List (Entry ℕ)) : Type 0 where
  pub each : (entry : Entry ℕ) → Contains entries entry → IsForSlot slots entry
  pub every : (slot : ℕ) (item : OpenRule) → slice_get slots slot ≡ Some (Some item)
      → (entry : Entry ℕ) × Contains entries entry × (entry.item ≡ slot)

-- the second list has this one more
pub record HasOneMoreRule (item : OpenRule) (fewer more : List OpenRule) : Type 0 where
  pub there : Contains more item
  pub kept : (other : OpenRule) → Contains fewer other → Contains more other
  pub only : (other : OpenRule) → Contains more other → (other ≡ item) ⊎ Contains fewer other

-- each of the second list is of the first
abbrev pub AreAmongRules : (all some : List OpenRule) → Type 0
AreAmongRules all some = (item : OpenRule) → Contains some item → Contains all item

-- the rules of entries that were ahead were taken out, and their entries
pub record TakesAhead (slots : List (Option OpenRule)) (entries ahead : List (Entry ℕ)) (awake : List OpenRule)
    (slots_left : List (Option OpenRule)) (entries_left : List (Entry ℕ)) : Type 0 where
  pub awake_among : AreAmongRules (open_in slots) awake
  pub every : (item : OpenRule) → Contains (open_in slots) item
      → Contains awake item ⊎ Contains (open_in slots_left) item
  pub entries_among : (entry : Entry ℕ) → Contains entries_left entry → Contains entries entry
  pub none_ahead : (entry : Entry ℕ) → Contains entries_left entry → Contains ahead entry → ⊥

-- all but some were taken out, and over the step what is asked for those stays
pub record TakesAwake (now : AuditMoment) (all awake left : List OpenRule) : Type 0 where
  pub awake_among : AreAmongRules all awake
  pub left_among : AreAmongRules all left
  pub every : (item : OpenRule) → Contains all item → Contains awake item ⊎ Contains left item
  pub stay : (item : OpenRule) → Contains left item → StaysAsked now item.rest
