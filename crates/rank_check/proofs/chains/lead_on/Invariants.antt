use Rattle.rank_check.proofs.Vocabulary.{AddsEdges}
use Rattle.rank_check.proofs.ClosureLemmas.{On}
use Rattle.rank_check.proofs.chains.lead_on.Given as goal

abbrev pub invariant-loop-number : goal.invariant-loop-number
invariant-loop-number l = AddsEdges (On l.initial.edges l.from l.between l.number) l.initial.edges l.edges
