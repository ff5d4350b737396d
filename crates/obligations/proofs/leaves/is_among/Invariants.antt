use Rattle.obligations.proofs.Vocabulary.{take, IsEventAmong, values_of_terms, bound_in}
use Rattle.obligations.proofs.leaves.is_among.Given as goal

abbrev pub invariant-loop-event : goal.invariant-loop-event
invariant-loop-event l = IsEventAmong (take l.event-index l.events) l.name (values_of_terms (bound_in l.v) l.terms) → ⊥
