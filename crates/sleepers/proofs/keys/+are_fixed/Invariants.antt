use Rattle.sleepers.proofs.Vocabulary.{length}
use Rattle.sleepers.proofs.keys.+are_fixed.Given as goal

abbrev pub decreases-are_fixed : goal.decreases-are_fixed
decreases-are_fixed l = length l.fixed.now
