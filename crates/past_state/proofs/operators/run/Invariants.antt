use Rattle.past_state.proofs.LazyTableLemmas.{RanTo}
use Rattle.past_state.proofs.operators.run.Given as goal

abbrev pub invariant-loop-operator : goal.invariant-loop-operator
invariant-loop-operator l = RanTo l.events l.time l.operators l.operator-index l.steps.items l.places.items
