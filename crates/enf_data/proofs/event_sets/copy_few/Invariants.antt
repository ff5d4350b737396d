use Rattle.enf_data.proofs.Vocabulary.{◌≡◌, take}
use Rattle.enf_data.proofs.event_sets.copy_few.Given as goal

abbrev pub invariant-loop-event : goal.invariant-loop-event
invariant-loop-event l = l.copy.items ≡ take l.event-index l.few
