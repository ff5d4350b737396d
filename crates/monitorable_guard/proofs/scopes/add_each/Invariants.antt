use Rattle.monitorable_guard.proofs.Vocabulary.{Contains, take, AddsVariables}
use Rattle.monitorable_guard.proofs.scopes.add_each.Given as goal

abbrev pub invariant-loop-x : goal.invariant-loop-x
invariant-loop-x l = AddsVariables (Contains (take l.x-index l.xs)) l.fn.all.items l.all.items
