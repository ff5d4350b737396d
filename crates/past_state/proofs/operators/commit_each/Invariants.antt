use Rattle.past_state.proofs.Vocabulary.{◌≡◌, ◌++◌, length, AllCommitted, AreSameKinds}
use Rattle.past_state.proofs.operators.commit_each.Given as goal

abbrev pub invariant-loop-step : goal.invariant-loop-step
invariant-loop-step l =
    (goal.iterator-loop-step).can_next l.step-iterator ×
    (goal.iterator-loop-step).is_finite l.step-iterator × (l.place ≡ length l.yielded) × AllCommitted l.time l.initial.operators.items l.yielded l.operators.items
    × AreSameKinds l.initial.operators.items l.operators.items × (l.initial.step-iterator.rest.items ≡ l.yielded ++ l.step-iterator.rest.items)
