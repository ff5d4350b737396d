use Rattle.rank_check.proofs.Vocabulary.{◌≡◌, length, NameId, IsRankWithin, HasEdge, rank_in}
use Rattle.rank_check.proofs.chains.ranks_of.Given as goal

abbrev pub invariant-loop-most : goal.invariant-loop-most
invariant-loop-most l = record {
  count : length l.ranks.items ≡ l.edges.width;
  within : (name : NameId) → IsRankWithin (HasEdge l.edges) l.most name (rank_in l.ranks.items name);
}
