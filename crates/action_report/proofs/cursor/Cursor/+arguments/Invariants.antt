use Rattle.action_report.proofs.Vocabulary.{length}
use Rattle.action_report.proofs.cursor.Cursor.+arguments.Given as goal

abbrev pub decreases-arguments : goal.decreases-arguments
decreases-arguments l = length l.sorts.now
