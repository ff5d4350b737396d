use Rattle.sleepers.proofs.Vocabulary.{length}
use Rattle.sleepers.proofs.keys.+feed_fixed.Given as goal

abbrev pub decreases-feed_fixed : goal.decreases-feed_fixed
decreases-feed_fixed l = length l.fixed.now
