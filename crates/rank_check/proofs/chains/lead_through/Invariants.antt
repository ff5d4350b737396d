use Rattle.rank_check.proofs.Vocabulary.{AddsEdges}
use Rattle.rank_check.proofs.ClosureLemmas.{Through}
use Rattle.rank_check.proofs.chains.lead_through.Given as goal

abbrev pub invariant-loop-number : goal.invariant-loop-number
invariant-loop-number l = AddsEdges (Through l.initial.edges l.between l.number) l.initial.edges l.edges
