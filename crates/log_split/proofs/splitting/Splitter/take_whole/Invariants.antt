use Rattle.std.proofs.Common.{length}
use Rattle.log_split.proofs.TakingLemmas.{HasTaken}
use Rattle.log_split.proofs.splitting.Splitter.take_whole.Given as goal

abbrev pub invariant-loop-item : goal.invariant-loop-item
invariant-loop-item l = HasTaken l.fn.self l.self l.fn.out.items l.out.items

abbrev pub decreases-loop-item : goal.decreases-loop-item
decreases-loop-item l = length l.self.reader.rest
