use Rattle.monitorable_guard.proofs.Vocabulary.{length}
use Rattle.monitorable_guard.proofs.atom_matches.+matched_all.Given as goal

abbrev pub decreases-matched_all : goal.decreases-matched_all
decreases-matched_all l = length l.terms.now
