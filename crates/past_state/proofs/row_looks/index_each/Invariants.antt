use Rattle.past_state.proofs.Vocabulary.{◌≡◌}
use Rattle.past_state.proofs.row_looks.index_each.Given as goal

abbrev pub invariant-loop-look : goal.invariant-loop-look
invariant-loop-look l =
    (goal.iterator-loop-look).can_next l.look-iterator ×
    (goal.iterator-loop-look).is_finite l.look-iterator
    × (l.operators.items ≡ l.initial.operators.items)
