use Rattle.plan_terms.proofs.ScopeLemmas.{begins, first_found, rises, same_nodes}
use Rattle.plan_terms.proofs.laws.nodes_have_scopes.Goals as goal

pub returns : goal.returns
returns c = record { nodes = same_nodes; found = first_found; begins = begins; rises = rises }
