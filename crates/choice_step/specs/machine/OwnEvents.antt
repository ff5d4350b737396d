-- The events of a step for which a plan looks.
use Rattle.enf_data.specs.declared.events.Event.{Event}
use Rattle.enf_data.specs.declared.events.NameId.{NameId}
use Rattle.std.specs.Prelude.{◌⊎◌, ◌++◌, Bool, List, [], Contains, IsTrue, false, slice_index_or}
use Rattle.enf_formula.specs.machine.Agreement.{names_in_formula}
use Rattle.plan_terms.specs.meaning.Plans.{Plan, CausePlan, SuppressPlan, Both, Either, TestOr, Guarded, EventuallyPlan, AlwaysPlan}
use Rattle.plan_terms.specs.meaning.Plans.{UntilPlan, NextPlan}

-- the names for which the guards and tests of a plan look
abbrev pub looked_for : Plan → List NameId
looked_for (CausePlan node place name terms) = []
looked_for (SuppressPlan node place name terms) = []
looked_for (Both node left right) = looked_for left ++ looked_for right
looked_for (Either node left right) = looked_for left ++ looked_for right
looked_for (TestOr node guard test body) = names_in_formula test ++ looked_for body
looked_for (Guarded node xs guard test body) = names_in_formula test ++ looked_for body
looked_for (EventuallyPlan node place low high body) = looked_for body
looked_for (AlwaysPlan node place low high body) = looked_for body
looked_for (UntilPlan node place low high left right) = looked_for left ++ looked_for right
looked_for (NextPlan node place high body) = looked_for body

-- the own ones of the events are those of the names, and the names of the others are told, which are none of these
pub record AreDivided (names : List NameId) (events own : List Event) (others : List NameId) : Type 0 where
  pub among : (event : Event) → Contains own event → Contains events event
  pub all : (event : Event) → Contains events event → Contains own event ⊎ Contains others event.name
  pub apart : (name : NameId) → Contains others name → Contains names name → ⊥

-- the name has its mark among these
abbrev pub IsMarked : List Bool → NameId → Type 0
IsMarked marks name = IsTrue (slice_index_or marks name.0 false)
