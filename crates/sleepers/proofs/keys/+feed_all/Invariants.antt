use Rattle.sleepers.proofs.Vocabulary.{length}
use Rattle.sleepers.proofs.keys.+feed_all.Given as goal

abbrev pub decreases-feed_all : goal.decreases-feed_all
decreases-feed_all l = length l.args.now
