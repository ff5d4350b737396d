use Rattle.std.proofs.Common.{length}
use Rattle.enf_cases.proofs.tables.+are_as_long.Given as goal

abbrev pub decreases-are_as_long : goal.decreases-are_as_long
decreases-are_as_long l = length l.rows.now
