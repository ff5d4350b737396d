use Rattle.action_report.proofs.Vocabulary.{length}
use Rattle.action_report.proofs.cursor.Cursor.+bindings.Given as goal

abbrev pub decreases-bindings : goal.decreases-bindings
decreases-bindings l = length l.scope.now
