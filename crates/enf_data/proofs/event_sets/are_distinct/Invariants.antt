use Rattle.enf_data.proofs.Vocabulary.{take, HasNoRepeats}
use Rattle.enf_data.proofs.event_sets.are_distinct.Given as goal

abbrev pub invariant-loop-place : goal.invariant-loop-place
invariant-loop-place l = HasNoRepeats (take l.place l.events)
