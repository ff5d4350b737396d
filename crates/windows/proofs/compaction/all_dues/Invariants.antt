use Rattle.windows.proofs.Vocabulary.{◌≡◌, ◌++◌, ◌+◌, length, values_of, dues_from}
use Rattle.windows.proofs.compaction.all_dues.Given as goal

abbrev pub invariant-loop-times : goal.invariant-loop-times
invariant-loop-times l =
    (l.dues.items ++ dues_from l.place l.times-iterator ≡ dues_from 0 (values_of l.entries.entries))
    × (l.place + length l.times-iterator ≡ length (values_of l.entries.entries))
