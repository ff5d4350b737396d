use Rattle.valuations.proofs.Vocabulary.{◌≡◌, Some, take, values_of_terms}
use Rattle.valuations.proofs.arguments.arguments_in.Given as goal

abbrev pub invariant-loop-term : goal.invariant-loop-term
invariant-loop-term g l = values_of_terms (g.V.Lookup.valuation l.v) (take l.term-index l.terms) ≡ Some l.row
