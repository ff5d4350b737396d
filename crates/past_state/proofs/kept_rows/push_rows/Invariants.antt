use Rattle.past_state.proofs.Vocabulary.{◌≡◌, ◌++◌, map, kept_row}
use Rattle.past_state.proofs.kept_rows.push_rows.Given as goal

abbrev pub invariant-loop-pair : goal.invariant-loop-pair
invariant-loop-pair l =
    (goal.iterator-loop-pair).can_next l.pair-iterator ×
    (goal.iterator-loop-pair).is_finite l.pair-iterator
    × (l.out.items ≡ l.fn.out.items ++ map (kept_row l.window) l.yielded) × (l.initial.pair-iterator.rest.items ≡ l.yielded ++ l.pair-iterator.rest.items)
