use Rattle.plan_terms.proofs.NamedNodeLemmas.{found_stands, node_stands}
use Rattle.plan_terms.proofs.NodeLemmas.{itself}
use Rattle.plan_terms.proofs.laws.nodes_stand_in_plans.Goals as goal

pub returns : goal.returns
returns c = record {
  nodes = node_stands;
  plans = λ guards plans rule plan formed at. node_stands guards plans rule plan plan formed at (itself plan);
  found = found_stands;
}
