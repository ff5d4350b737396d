use Rattle.sleepers.proofs.Vocabulary.{length}
use Rattle.sleepers.proofs.patterns.+has_none.Given as goal

abbrev pub decreases-has_none : goal.decreases-has_none
decreases-has_none l = length l.patterns.now
