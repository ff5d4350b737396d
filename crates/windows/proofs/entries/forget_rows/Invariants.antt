use Rattle.windows.specs.machine.WindowEntries.{rows_of}
use Rattle.windows.proofs.Vocabulary.{◌≡◌, ◌≤◌, take, Contains, KeepsRows, count_pairs}
use Rattle.windows.proofs.entries.forget_rows.Given as goal

abbrev pub invariant-loop-row : goal.invariant-loop-row
invariant-loop-row l =
    KeepsRows (λ row. Contains (take l.row-index l.failing.rows) row → ⊥) l.fn.entries.entries l.entries.entries
    × (rows_of l.entries.entries ≡ rows_of l.fn.entries.entries)
    × (l.left ≤ count_pairs l.entries.entries)
