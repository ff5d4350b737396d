use Rattle.rank_check.proofs.Vocabulary.{◌<◌, NameId, HasEdge}
use Rattle.rank_check.proofs.chains.first_to_itself.Given as goal

abbrev pub invariant-loop-number : goal.invariant-loop-number
invariant-loop-number l = (name : NameId) → name.0 < l.number → HasEdge l.edges name name → ⊥
