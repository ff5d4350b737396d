-- Which rules a step can wake: those with an event of a name that wakes them.
use Rattle.enf_data.specs.declared.events.Event.{Event}
use Rattle.enf_data.specs.declared.events.NameId.{NameId}
use Rattle.std.specs.List.{AllByRecursion}
use Rattle.std.specs.List.Sorted.{IsSortedByKey}
use Rattle.std.specs.Ordering.{nat_cmp}
use Rattle.std.specs.Prelude.{◌≡◌, List, Contains, Option, None, Some, All, ℕ, slice_get}
use Rattle.plan_terms.specs.meaning.Plans.{IsSuppressed, Plan}
use Rattle.choice_step.specs.declared.woken_rules.Woken.{Woken}

-- no event of the step has the name
abbrev pub IsAway : List Event → NameId → Type 0
IsAway events name = (event : Event) → Contains events event → event.name ≡ name → ⊥

-- the names that wake the rule are told, and the step has no event of them
abbrev pub HasNoneOf : Option (Option (List NameId)) → List Event → Type 0
HasNoneOf None events = ⊥
HasNoneOf (Some None) events = ⊥
HasNoneOf (Some (Some names)) events = All (IsAway events) names

-- of each rule the names are told that wake it, and no event is of one of them
abbrev pub AllSleep : List (Option (List NameId)) → List Event → Type 0
AllSleep wakes events = AllByRecursion (λ names. HasNoneOf (Some names) events) wakes

-- no event of a name that plans suppress came to those before
abbrev pub GainsNoSuppressed : List Plan → (before after : List Event) → Type 0
GainsNoSuppressed plans before after =
    (event : Event) → IsSuppressed plans event.name → Contains after event → Contains before event

-- the number of the name of an entry, and the entry of a rule at one of the names that wake it
abbrev pub woken_number : Woken → ℕ
woken_number entry = entry.name.0

abbrev pub woken_by : (rule : ℕ) → NameId → Woken
woken_by rule name = record { name = name; rule = rule }

-- each rule without such names is among those that are always awake, and each other stands with each of its names
pub record AreAllIn (wakes : List (Option (List NameId))) (always : List ℕ) (by_name : List Woken) : Type 0 where
  pub always_there : (rule : ℕ) → slice_get wakes rule ≡ Some None → Contains always rule
  pub order : IsSortedByKey woken_number nat_cmp by_name
  pub named_there : (rule : ℕ) (names : List NameId) (name : NameId) → slice_get wakes rule ≡ Some (Some names)
      → Contains names name → Contains by_name (woken_by rule name)
