use Rattle.std.proofs.Common.{◌-◌, ◌<◌, length}
use Rattle.enf_cases.proofs.logs.read_pieces.Given as goal

abbrev pub invariant-loop-refusal : goal.invariant-loop-refusal
invariant-loop-refusal l = 0 < l.fn.size

abbrev pub decreases-loop-refusal : goal.decreases-loop-refusal
decreases-loop-refusal l = length l.log - l.from
