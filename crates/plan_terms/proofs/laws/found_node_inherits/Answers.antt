use Rattle.plan_terms.proofs.Vocabulary.{IsListedNode, IsSafeNode, EndsInTime, IsScopedNode}
use Rattle.plan_terms.proofs.ScopeLaws.{AtEach-found, AtEach-from_nodes, AtEach-nodes}
use Rattle.plan_terms.proofs.laws.found_node_inherits.Goals as goal

pub returns : goal.returns
returns c = record {
  scoped = AtEach-found IsScopedNode;
  safe = AtEach-found IsSafeNode;
  listed = λ guards. AtEach-found (IsListedNode guards);
  ends = λ plan node scope inner number found each.
      AtEach-nodes EndsInTime node inner (AtEach-found (λ n s. EndsInTime n) plan node scope inner number found (AtEach-from_nodes EndsInTime plan scope each));
}
