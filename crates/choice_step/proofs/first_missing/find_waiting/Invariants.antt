use Rattle.choice_step.proofs.Vocabulary.{List, length, Event}
use Rattle.choice_step.specs.machine.StillToAsk.{IsAskingIn}
use Rattle.choice_step.proofs.first_missing.find_waiting.Given as goal

abbrev pub invariant-loop-instance : goal.invariant-loop-instance
invariant-loop-instance l = (told : List Event) → IsAskingIn l.situation l.now.events.now told l.fn.asking
    → IsAskingIn l.situation l.now.events.now told l.asking

abbrev pub decreases-loop-instance : goal.decreases-loop-instance
decreases-loop-instance l = length l.asking.ahead
