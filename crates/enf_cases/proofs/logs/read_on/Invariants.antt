use Rattle.std.proofs.Common.{length}
use Rattle.enf_cases.proofs.logs.read_on.Given as goal

abbrev pub invariant-loop-item : goal.invariant-loop-item
invariant-loop-item l = Unit {0}

abbrev pub decreases-loop-item : goal.decreases-loop-item
decreases-loop-item l = length l.reader.rest
