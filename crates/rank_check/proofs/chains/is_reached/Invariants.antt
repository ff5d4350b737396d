use Rattle.rank_check.proofs.Vocabulary.{◌<◌, ◌≤◌, NameId, rank_in, HasEdge}
use Rattle.rank_check.proofs.chains.is_reached.Given as goal

abbrev pub invariant-loop-number : goal.invariant-loop-number
invariant-loop-number l = (from : NameId) → from.0 < l.number → l.least ≤ rank_in l.ranks from → HasEdge l.edges from l.name → ⊥
