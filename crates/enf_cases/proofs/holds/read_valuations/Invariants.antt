use Rattle.std.proofs.Common.{All, length}
use Rattle.enf_data.specs.meaning.Valuations.{BindsColumns}
use Rattle.enf_cases.proofs.holds.read_valuations.Given as goal

abbrev pub invariant-loop-piece : goal.invariant-loop-piece
invariant-loop-piece l = All (λ v. BindsColumns v l.bound) l.valuations.items

abbrev pub decreases-loop-piece : goal.decreases-loop-piece
decreases-loop-piece l = length l.rest
