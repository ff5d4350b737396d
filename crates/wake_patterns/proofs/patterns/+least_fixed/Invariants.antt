use Rattle.wake_patterns.proofs.Vocabulary.{length}
use Rattle.wake_patterns.proofs.patterns.+least_fixed.Given as goal

abbrev pub decreases-least_fixed : goal.decreases-least_fixed
decreases-least_fixed l = length l.patterns.now
