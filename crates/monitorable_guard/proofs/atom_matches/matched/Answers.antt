use Rattle.monitorable_guard.proofs.MatchLemmas.{other_number}
use Rattle.monitorable_guard.proofs.atom_matches.matched.Goals as goal

pub returns-clause-none : goal.returns-clause-none
returns-clause-none c = other_number c.args.terms.now c.args.values.now c.args.v c.if-terms-values.false
