use Rattle.std.proofs.Common.{length}
use Rattle.enf_cases.proofs.tables.bind_all.Given as goal

abbrev pub decreases-loop-piece : goal.decreases-loop-piece
decreases-loop-piece l = length l.rest
