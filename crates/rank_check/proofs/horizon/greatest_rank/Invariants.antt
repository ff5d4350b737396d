use Rattle.rank_check.proofs.Vocabulary.{◌≡◌, take, greatest}
use Rattle.rank_check.proofs.horizon.greatest_rank.Given as goal

abbrev pub invariant-loop-rank : goal.invariant-loop-rank
invariant-loop-rank l = l.most ≡ greatest (take l.rank-index l.ranks)
