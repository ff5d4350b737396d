use Rattle.valuations.proofs.Vocabulary.{◌≡◌, Some, map, length, drop, value_of_term, key_cmp}
use Rattle.valuations.proofs.arguments.compare_to_terms.Given as goal

abbrev pub invariant-loop-value : goal.invariant-loop-value
invariant-loop-value g l = key_cmp (map Some l.row) (map (value_of_term (g.V.Lookup.valuation l.v)) l.terms)
    ≡ key_cmp (map Some (drop (length l.yielded) l.row)) (map (value_of_term (g.V.Lookup.valuation l.v)) (drop (length l.yielded) l.terms))
