use Rattle.windows.proofs.Vocabulary.{◌≡◌, ◌++◌, deque_iter_rest}
use Rattle.windows.proofs.queue.DueQueueDuplicate.duplicate.Given as goal

abbrev pub invariant-loop-due : goal.invariant-loop-due
invariant-loop-due l = l.dues.items ++ deque_iter_rest l.due-iterator ≡ l.self-inside.dues.items
