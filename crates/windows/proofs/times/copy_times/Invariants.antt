use Rattle.windows.proofs.Vocabulary.{◌≡◌, ◌++◌, deque_iter_rest}
use Rattle.windows.proofs.times.copy_times.Given as goal

abbrev pub invariant-loop-time : goal.invariant-loop-time
invariant-loop-time l = l.copy.items ++ deque_iter_rest l.time-iterator ≡ l.times.items
