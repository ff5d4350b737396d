use Rattle.windows.proofs.Vocabulary.{take}
use Rattle.windows.proofs.PairLemmas.{ArePairsOfRows}
use Rattle.windows.proofs.since.SinceWindow.kept.Given as goal

abbrev pub invariant-loop-row : goal.invariant-loop-row
invariant-loop-row l = ArePairsOfRows l.entries.entries (take l.row-index l.row-items) l.pairs.items
