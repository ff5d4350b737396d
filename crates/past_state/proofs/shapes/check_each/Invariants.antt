use Rattle.past_state.proofs.Vocabulary.{map, take, Some, option_copied, AreWithinBounds, operator_of}
use Rattle.past_state.proofs.ShapeLemmas.{IsLastOf}
use Rattle.past_state.proofs.shapes.check_each.Given as goal

abbrev pub invariant-loop-place : goal.invariant-loop-place
invariant-loop-place l =
    record { within : AreWithinBounds (map operator_of l.shapes) (Some l.last) (take l.place l.rows); last_is : IsLastOf (take l.place l.rows) (option_copied l.before) }
