use Rattle.monitorable_guard.proofs.Vocabulary.{sym, subst, tree_of, bound_in, HasKnownValues}
use Rattle.monitorable_guard.proofs.guard.Guard.rows_under.Goals as goal

pub returns-in-Some-clause-known : goal.returns-in-Some-clause-known
returns-in-Some-clause-known g c = c.in-Some.ensures.known (g.P.Past.tables c.args.past.now) (bound_in c.args.v.now)

pub returns-clause-known : goal.returns-clause-known
returns-clause-known g c =
    subst (HasKnownValues c.args.events.now (g.P.Past.tables c.args.past.now) (tree_of c.args.self.now.formula) c.args.self.now.bound (bound_in c.args.v.now)) (sym c.of.ensures)
    c.in_ok-evaluate_under.ensures.known
