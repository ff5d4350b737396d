use Rattle.windows.proofs.Vocabulary.{length}
use Rattle.windows.proofs.TimeLemmas.{Passes}
use Rattle.windows.proofs.times.settle_all.Given as goal

abbrev pub invariant-loop-times : goal.invariant-loop-times
invariant-loop-times l = Passes l.high l.low l.now l.fn.times.items l.times.items

abbrev pub decreases-loop-times : goal.decreases-loop-times
decreases-loop-times l = length l.times.items
