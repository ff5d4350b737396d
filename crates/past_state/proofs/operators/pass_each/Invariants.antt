use Rattle.past_state.proofs.Vocabulary.{take, AllCommitted, AreSameKinds}
use Rattle.past_state.specs.machine.UntouchedSteps.{idle_tables}
use Rattle.past_state.proofs.operators.pass_each.Given as goal

abbrev pub invariant-loop-place : goal.invariant-loop-place
invariant-loop-place l =
    AllCommitted l.time l.initial.operators.items (idle_tables (take l.place l.initial.operators.items)) l.operators.items × AreSameKinds l.initial.operators.items l.operators.items
