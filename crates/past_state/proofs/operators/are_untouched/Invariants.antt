use Rattle.past_state.proofs.Vocabulary.{take}
use Rattle.past_state.specs.machine.UntouchedSteps.{AreUntouched}
use Rattle.past_state.proofs.operators.are_untouched.Given as goal

abbrev pub invariant-loop-operator : goal.invariant-loop-operator
invariant-loop-operator l = AreUntouched l.events (take l.operator-index l.operators)
