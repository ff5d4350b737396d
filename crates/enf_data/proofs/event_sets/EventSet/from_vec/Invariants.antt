use Rattle.enf_data.proofs.Vocabulary.{◌≡◌, ◌++◌, [], InsertsEach}
use Rattle.enf_data.proofs.event_sets.EventSet.from_vec.Given as goal

abbrev pub invariant-loop-event : goal.invariant-loop-event
invariant-loop-event l =
    (goal.iterator-loop-event).can_next l.event-iterator
    × (goal.iterator-loop-event).is_finite l.event-iterator
    × (l.initial.event-iterator.rest.items ≡ l.yielded ++ l.event-iterator.rest.items)
    × InsertsEach [] l.yielded l.set
