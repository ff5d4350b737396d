use Rattle.sleepers.proofs.Vocabulary.{length}
use Rattle.sleepers.proofs.places.+compare.Given as goal

abbrev pub decreases-compare : goal.decreases-compare
decreases-compare l = length l.place.now
