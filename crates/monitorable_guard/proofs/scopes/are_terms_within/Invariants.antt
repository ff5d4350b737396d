use Rattle.monitorable_guard.proofs.Vocabulary.{Contains, take, Var, VarId}
use Rattle.monitorable_guard.proofs.scopes.are_terms_within.Given as goal

abbrev pub invariant-loop-term : goal.invariant-loop-term
invariant-loop-term l = (x : VarId) → Contains (take l.term-index l.terms) (Var x) → Contains l.bound x
