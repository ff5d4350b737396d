use Rattle.std.proofs.Common.{length}
use Rattle.enf_cases.proofs.tables.push_rows.Given as goal

abbrev pub decreases-loop-piece : goal.decreases-loop-piece
decreases-loop-piece l = length l.rest
