use Rattle.obligations.proofs.Vocabulary.{◌≡◌, map, take, AllByRecursion}
use Rattle.obligations.proofs.present_events.has_named.Given as goal

abbrev pub invariant-loop-event : goal.invariant-loop-event
invariant-loop-event l = AllByRecursion (λ n. n ≡ l.name → ⊥) (map (λ e. e.name) (take l.event-index l.events))
