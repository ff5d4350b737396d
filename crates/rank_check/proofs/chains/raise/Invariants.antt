use Rattle.rank_check.proofs.Vocabulary.{HasEdge}
use Rattle.rank_check.proofs.RankLemmas.{IsRaising}
use Rattle.rank_check.proofs.chains.raise.Given as goal

abbrev pub invariant-loop-number : goal.invariant-loop-number
invariant-loop-number l = IsRaising (HasEdge l.edges) l.most l.number l.ranks l.is_longer
