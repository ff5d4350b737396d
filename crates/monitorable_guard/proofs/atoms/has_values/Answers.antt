use Rattle.monitorable_guard.proofs.Vocabulary.{bound_in}
use Rattle.monitorable_guard.proofs.LeastLemmas.{match_some}
use Rattle.monitorable_guard.proofs.atoms.has_values.Goals as goal

pub returns : goal.returns
returns c = rw c.is_some.ensures (match_some c.args.terms.now c.args.values.now c.over.result (bound_in c.args.scope.now) c.in_ok-found.found c.over.ensures c.in_ok-found.ensures.some
    c.in_ok-found.ensures.none)
