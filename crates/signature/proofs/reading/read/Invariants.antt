use Rattle.signature.proofs.Vocabulary.{◌-◌, length}
use Rattle.signature.proofs.Loop.{IsOnTheWay}
use Rattle.signature.proofs.reading.read.Given as goal

abbrev pub invariant-loop-part : goal.invariant-loop-part
invariant-loop-part l = IsOnTheWay l.bytes l.place l.signature l.part

abbrev pub decreases-loop-part : goal.decreases-loop-part
decreases-loop-part l = length l.bytes - l.place
