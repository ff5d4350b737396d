use Rattle.wake_patterns.proofs.Vocabulary.{◌≡◌, map, take, value_of_term, bound_in}
use Rattle.wake_patterns.proofs.patterns.fixed_in.Given as goal

abbrev pub invariant-loop-term : goal.invariant-loop-term
invariant-loop-term l = l.args.items ≡ map (value_of_term (bound_in l.v)) (take l.term-index l.terms)
