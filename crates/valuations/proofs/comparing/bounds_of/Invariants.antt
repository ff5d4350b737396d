use Rattle.valuations.proofs.Vocabulary.{◌≡◌, take, map, option_copied, value_at}
use Rattle.valuations.proofs.comparing.bounds_of.Given as goal

abbrev pub invariant-loop-column : goal.invariant-loop-column
invariant-loop-column g l = map option_copied l.bounds.items ≡ map (value_at (g.V.Lookup.valuation l.v)) (take l.column-index l.columns)
