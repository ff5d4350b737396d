use Rattle.std.proofs.Common.{length}
use Rattle.enf_cases.proofs.escapes.unescape.Given as goal

abbrev pub decreases-loop-byte : goal.decreases-loop-byte
decreases-loop-byte l = length l.rest
