use Rattle.monitorable_guard.proofs.Vocabulary.{tree_of}
use Rattle.monitorable_guard.proofs.ScopeLemmas.{under_decided}
use Rattle.monitorable_guard.proofs.scopes.is_free_under.Goals as goal

pub returns : goal.returns
returns c = under_decided (tree_of c.args.body.now) c.args.xs.now c.args.bound.now _ _ c.is_free_within.result c.in_ok-all.ensures c.as_slice.ensures.value c.is_free_within.ensures
