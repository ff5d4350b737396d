-- The events of a step but those that are gone.
use Rattle.obligations.proofs.Vocabulary.{◌↔◌, Bool, true, false, List, Contains, IsTrue, refl, false≢true}
use Rattle.std.specs.Prelude.{not}
use Rattle.obligations.proofs.Vocabulary.{Event}
use Rattle.enf_data.proofs.ListFacts.{not_both}
use Rattle.enf_data.proofs.RemovalLemmas.{left_is}
use Rattle.enf_data.specs.machine.EventSets.{without_events}

not_from : (b : Bool) → (IsTrue b → ⊥) → IsTrue (not b)
not_from true none = absurd (none refl)
not_from false none = refl

module _ (events gone : List Event) (event : Event) where
  -- where it is one of the events, by whether it is gone
  pub left_then : (away : Bool) → Contains events event → (IsTrue away ↔ Contains gone event)
      → IsTrue (not away) ↔ Contains (without_events events gone) event
  left_then away there is = (
    λ yes. (left_is events gone event).1 (there, λ it. not_both away yes (is.1 it)),
    λ left. not_from away (λ it. ((left_is events gone event).0 left).1 (is.0 it)),
  )

  -- and where it is none of them
  pub left_else : (Contains events event → ⊥) → IsTrue false ↔ Contains (without_events events gone) event
  left_else absent = (λ yes. absurd (false≢true yes), λ left. absurd (absent ((left_is events gone event).0 left).0))
