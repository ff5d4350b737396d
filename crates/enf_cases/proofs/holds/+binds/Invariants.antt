use Rattle.std.proofs.Common.{length}
use Rattle.enf_cases.proofs.holds.+binds.Given as goal

abbrev pub decreases-binds : goal.decreases-binds
decreases-binds l = length l.variables.now
