use Rattle.choice_step.proofs.Vocabulary.{◌≡◌, ◌+◌, ◌-◌, [], List, length, Event}
use Rattle.choice_step.specs.machine.StillToAsk.{IsUnasked}
use Rattle.choice_step.proofs.first_missing.find_root.Given as goal

abbrev pub invariant-loop-alloc : goal.invariant-loop-alloc
invariant-loop-alloc l = ((told : List Event) → IsUnasked l.situation l.now.events.now told l.fn.unasked → IsUnasked l.situation l.now.events.now told l.unasked)
    × (l.unasked.roused ≡ l.fn.unasked.roused) × (l.unasked.asking.ahead ≡ [])

-- the roots that are still to be asked
abbrev pub decreases-loop-alloc : goal.decreases-loop-alloc
decreases-loop-alloc l = length l.unasked.again.items + (length l.situation.plans.now - l.unasked.from)
