use Rattle.past_state.proofs.Vocabulary.{◌≡◌, take}
use Rattle.past_state.proofs.copies.copy_of.Given as goal

abbrev pub invariant-loop-operator : goal.invariant-loop-operator
invariant-loop-operator l = l.copy.items ≡ take l.operator-index l.operators
