use Rattle.valuations.proofs.Vocabulary.{◌≡◌, Some, map, length, drop, value_at, key_cmp}
use Rattle.valuations.proofs.searching.compare_to_bound.Given as goal

abbrev pub invariant-loop-value : goal.invariant-loop-value
invariant-loop-value g l = key_cmp (map Some l.row) (map (value_at (g.V.Lookup.valuation l.v)) l.columns)
    ≡ key_cmp (map Some (drop (length l.yielded) l.row)) (map (value_at (g.V.Lookup.valuation l.v)) (drop (length l.yielded) l.columns))
