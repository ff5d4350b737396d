use Rattle.prev_rows.proofs.Vocabulary.{◌≡◌, ◌++◌, map, pair}
use Rattle.prev_rows.proofs.grown_rows.at_time.Given as goal

abbrev pub invariant-loop-pair : goal.invariant-loop-pair
invariant-loop-pair l =
    (goal.iterator-loop-pair).can_next l.pair-iterator ×
    (goal.iterator-loop-pair).is_finite l.pair-iterator
    × (map (λ p. pair p.row l.time) l.initial.pair-iterator.rest.items ≡ l.out.items ++ map (λ p. pair p.row l.time) l.pair-iterator.rest.items)
