use Rattle.plan_terms.proofs.ScopeLemmas.{free_in_scope}
use Rattle.plan_terms.proofs.laws.free_is_in_scope.Goals as goal

pub returns : goal.returns
returns c = free_in_scope
