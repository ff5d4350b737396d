use Rattle.windows.proofs.Vocabulary.{◌≡◌, ◌++◌, AreEntriesOf}
use Rattle.windows.proofs.kept_pairs.entries_of.Given as goal

abbrev pub invariant-loop-pair : goal.invariant-loop-pair
invariant-loop-pair l =
    (goal.iterator-loop-pair).can_next l.pair-iterator ×
    (goal.iterator-loop-pair).is_finite l.pair-iterator
    × AreEntriesOf l.yielded l.entries.entries × (l.initial.pair-iterator.rest.items ≡ l.yielded ++ l.pair-iterator.rest.items)
