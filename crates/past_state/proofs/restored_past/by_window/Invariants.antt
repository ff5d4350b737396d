use Rattle.past_state.proofs.Vocabulary.{◌≡◌, ◌++◌, AreByWindow}
use Rattle.past_state.proofs.restored_past.by_window.Given as goal

abbrev pub invariant-loop-row : goal.invariant-loop-row
invariant-loop-row l =
    (goal.iterator-loop-row).can_next l.row-iterator ×
    (goal.iterator-loop-row).is_finite l.row-iterator
    × AreByWindow l.yielded l.count l.lists.items × (l.initial.row-iterator.rest.items ≡ l.yielded ++ l.row-iterator.rest.items)
