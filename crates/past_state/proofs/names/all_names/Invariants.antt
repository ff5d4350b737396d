use Rattle.past_state.proofs.Vocabulary.{◌≡◌, ◌++◌, drop, guard_names}
use Rattle.past_state.proofs.names.all_names.Given as goal

abbrev pub invariant-loop-placed : goal.invariant-loop-placed
invariant-loop-placed l = guard_names l.guards ≡ l.names.items ++ guard_names (drop l.placed-index l.guards)
