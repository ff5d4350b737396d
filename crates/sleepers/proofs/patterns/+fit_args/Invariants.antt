use Rattle.sleepers.proofs.Vocabulary.{length}
use Rattle.sleepers.proofs.patterns.+fit_args.Given as goal

abbrev pub decreases-fit_args : goal.decreases-fit_args
decreases-fit_args l = length l.args.now
