use Rattle.trace_audit.proofs.Vocabulary.{length}
use Rattle.trace_audit.proofs.SlotLemmas.{TakesSoFar}
use Rattle.trace_audit.proofs.open_rules.take_ahead.Given as goal

abbrev pub invariant-loop-entry : goal.invariant-loop-entry
invariant-loop-entry l =
    TakesSoFar l.initial.slots.items l.initial.sleepers.entries l.initial.sleepers.ahead l.awake.items l.slots.items l.sleepers.entries l.sleepers.ahead

abbrev pub decreases-loop-entry : goal.decreases-loop-entry
decreases-loop-entry l = length l.sleepers.ahead
