use Rattle.pending.proofs.Vocabulary.{◌≡◌, take, shown}
use Rattle.pending.proofs.pending.duplicates.Given as goal

abbrev pub invariant-loop-instance : goal.invariant-loop-instance
invariant-loop-instance l = l.copies.items ≡ shown (take l.instance-index l.instances)
