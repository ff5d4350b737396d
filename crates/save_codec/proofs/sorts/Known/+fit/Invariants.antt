use Rattle.save_codec.proofs.Vocabulary.{length}
use Rattle.save_codec.proofs.sorts.Known.+fit.Given as goal

abbrev pub decreases-fit : goal.decreases-fit
decreases-fit l = length l.variables.now
