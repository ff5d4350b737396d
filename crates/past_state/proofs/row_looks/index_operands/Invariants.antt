use Rattle.past_state.proofs.Vocabulary.{◌≡◌}
use Rattle.past_state.proofs.row_looks.index_operands.Given as goal

abbrev pub invariant-loop-place : goal.invariant-loop-place
invariant-loop-place l = l.operators.items ≡ l.initial.operators.items
