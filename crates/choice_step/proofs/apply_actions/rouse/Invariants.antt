use Rattle.choice_step.proofs.Vocabulary.{◌≡◌, ◌≤◌, ◌-◌, length}
use Rattle.choice_step.proofs.RouseLemmas.{caused_between}
use Rattle.choice_step.specs.machine.Turns.{RousesEach}
use Rattle.choice_step.proofs.apply_actions.rouse.Given as goal

abbrev pub invariant-loop-unasked : goal.invariant-loop-unasked
invariant-loop-unasked l = (l.unasked.from ≡ l.fn.unasked.from) × (l.unasked.again.items ≡ l.fn.unasked.again.items)
    × (l.fn.unasked.roused ≤ l.unasked.roused) × (l.unasked.roused ≤ length l.actions)
    × RousesEach (caused_between l.actions l.fn.unasked.roused l.unasked.roused) l.fn.unasked.asking l.unasked.asking

abbrev pub decreases-loop-unasked : goal.decreases-loop-unasked
decreases-loop-unasked l = length l.actions - l.unasked.roused
