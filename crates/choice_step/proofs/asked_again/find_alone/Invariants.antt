use Rattle.choice_step.proofs.Vocabulary.{◌≡◌, [], List, Event}
use Rattle.choice_step.specs.machine.StillToAsk.{IsUnasked}
use Rattle.choice_step.proofs.asked_again.find_alone.Given as goal

abbrev pub invariant-loop : goal.invariant-loop
invariant-loop l = ((told : List Event) → IsUnasked l.situation l.events told l.fn.unasked → IsUnasked l.situation l.events told l.unasked)
    × (l.unasked.roused ≡ l.fn.unasked.roused) × (l.unasked.asking.ahead ≡ [])
