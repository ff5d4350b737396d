use Rattle.past_state.proofs.Vocabulary.{rev_source, zip_first, zip_second, into_iter_items}
use Rattle.past_state.proofs.RestoredRowLemmas.{AreLeft}
use Rattle.past_state.proofs.restored_past.restore_each.Given as goal

abbrev pub invariant-loop-operator : goal.invariant-loop-operator
invariant-loop-operator l =
    (goal.iterator-loop-operator).can_next l.operator-iterator ×
    (goal.iterator-loop-operator).is_finite l.operator-iterator
    × AreLeft l.fn.operators.items l.last l.fn.rows (into_iter_items (zip_first l.operator-iterator)) (into_iter_items (rev_source (zip_second l.operator-iterator))) l.restored.items
