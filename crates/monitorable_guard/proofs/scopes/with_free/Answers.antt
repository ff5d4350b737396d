use Rattle.monitorable_guard.proofs.Vocabulary.{tree_of}
use Rattle.monitorable_guard.proofs.ScopeLemmas.{with_added}
use Rattle.monitorable_guard.proofs.scopes.with_free.Goals as goal

pub returns : goal.returns
returns c = with_added (tree_of c.args.formula.now) c.args.bound.now c.in_ok-all.all.items c.add_free.new.all.items c.in_ok-all.ensures.items c.in_ok-add_free.ensures
