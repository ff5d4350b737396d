use Rattle.monitorable_guard.proofs.ScopeLemmas.{free_decided}
use Rattle.monitorable_guard.proofs.scopes.are_free_in.Goals as goal

pub returns : goal.returns
returns c = free_decided _ _ _ _ c.are_all_in.result c.in_ok-free.ensures c.as_slice.ensures c.are_all_in.ensures
