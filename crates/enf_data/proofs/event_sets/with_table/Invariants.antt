use Rattle.enf_data.proofs.Vocabulary.{◌≡◌, ◌+◌, ◌≤◌, ◌++◌, length, spare}
use Rattle.enf_data.proofs.event_sets.with_table.Given as goal

abbrev pub invariant-loop-moved : goal.invariant-loop-moved
invariant-loop-moved l =
    (goal.iterator-loop-moved).can_next l.moved-iterator
    × (goal.iterator-loop-moved).is_finite l.moved-iterator
    × (l.initial.moved-iterator.rest.items ≡ l.yielded ++ l.moved-iterator.rest.items)
    × (l.table.value.keys ≡ l.yielded)
    × (length l.moved-iterator.rest.items + 1 ≤ spare l.table.value)
