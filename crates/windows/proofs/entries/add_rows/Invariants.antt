use Rattle.windows.specs.machine.RowIndexes.{IsIndexOf}
use Rattle.windows.specs.machine.WindowEntries.{rows_of}
use Rattle.windows.proofs.Vocabulary.{IfSome, ◌≡◌, ◌≤◌, ◌++◌, length, Contains, AddAtMost, AddsTimes, AreWindowEntries, AreLeast, IsQueueAt, count_pairs}
use Rattle.windows.proofs.entries.add_rows.Given as goal

abbrev pub invariant-loop-row : goal.invariant-loop-row
invariant-loop-row l =
    (goal.iterator-loop-row).can_next l.row-iterator
    × (goal.iterator-loop-row).is_finite l.row-iterator
    × (l.initial.row-iterator.rest.items ≡ l.yielded ++ l.row-iterator.rest.items)
    × AddAtMost l.now (Contains l.initial.row-iterator.rest.items) l.fn.entries.entries l.entries.entries
    × AddsTimes l.interval l.now (Contains l.yielded) l.fn.entries.entries l.entries.entries
    × AreWindowEntries (length l.among) l.now l.entries.entries
    × AreLeast l.interval l.now l.entries.entries
    × IfSome l.index (IsIndexOf l.among (rows_of l.entries.entries))
    × IsQueueAt l.interval l.now l.entries.entries l.queue
    × (l.left ≤ count_pairs l.entries.entries)
