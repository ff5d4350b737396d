use Rattle.monitorable_guard.proofs.ScopeLemmas.{within_decided}
use Rattle.monitorable_guard.proofs.scopes.+is_free_within.Goals as goal

pub returns-in-Atom : goal.returns-in-Atom
returns-in-Atom t c = rw (c.in-Atom.is, ← c.as_slice.ensures) c.are_terms_within.ensures

pub returns-in_ok-free-in_default : goal.returns-in_ok-free-in_default
returns-in_ok-free-in_default t c = within_decided _ _ _ _ c.are_all_in.result c.in_ok-free-in_default.ensures c.as_slice-in_default.ensures c.are_all_in.ensures
