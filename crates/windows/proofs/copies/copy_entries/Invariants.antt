use Rattle.windows.proofs.Vocabulary.{◌≡◌, ◌++◌}
use Rattle.windows.proofs.copies.copy_entries.Given as goal

abbrev pub invariant-loop-row : goal.invariant-loop-row
invariant-loop-row l = l.copy.entries ++ l.row-iterator ≡ l.entries.entries
