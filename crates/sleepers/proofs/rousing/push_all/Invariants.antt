use Rattle.sleepers.proofs.Vocabulary.{shown}
use Rattle.sleepers.proofs.RousedLemmas.{AreRousedBelow}
use Rattle.sleepers.proofs.rousing.push_all.Given as goal

abbrev pub invariant-loop-number : goal.invariant-loop-number
invariant-loop-number g l = AreRousedBelow l.event l.groups l.number (shown l.entries.items)
