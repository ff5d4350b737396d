use Rattle.monitorable_guard.proofs.Vocabulary.{tree_of}
use Rattle.monitorable_guard.proofs.ScopeLemmas.{alike_decided}
use Rattle.monitorable_guard.proofs.scopes.is_free_alike.Goals as goal

pub returns : goal.returns
returns c = alike_decided (tree_of c.args.g.now) (tree_of c.args.h.now) c.args.bound.now _ _ _ _ c.are_same.result c.in_ok-left.ensures c.in_ok-right.ensures c.as_slice.ensures.value
    c.as_slice-2.ensures.value c.are_same.ensures
