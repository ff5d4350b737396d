use Rattle.rank_check.proofs.Vocabulary.{take, AddsEdges}
use Rattle.rank_check.proofs.MatrixLemmas.{Each}
use Rattle.rank_check.proofs.causes.add_each.Given as goal

abbrev pub invariant-loop-from : goal.invariant-loop-from
invariant-loop-from l = AddsEdges (Each (take l.from-index l.met) l.to) l.fn.edges l.edges
