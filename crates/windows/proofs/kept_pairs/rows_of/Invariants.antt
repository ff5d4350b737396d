use Rattle.windows.proofs.Vocabulary.{◌≡◌, ◌++◌, map}
use Rattle.windows.proofs.kept_pairs.rows_of.Given as goal

abbrev pub invariant-loop-pair : goal.invariant-loop-pair
invariant-loop-pair l =
    (goal.iterator-loop-pair).can_next l.pair-iterator ×
    (goal.iterator-loop-pair).is_finite l.pair-iterator
    × (map (λ p. p.row) l.initial.pair-iterator.rest.items ≡ l.rows.items ++ map (λ p. p.row) l.pair-iterator.rest.items)
