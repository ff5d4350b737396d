use Rattle.sleepers.proofs.Vocabulary.{◌<◌, ℕ, Contains, entries_at, IsGroupFound, KeepsAll, Entry}
use Rattle.sleepers.proofs.awake_groups.note_each.Given as goal

abbrev pub invariant-loop-number : goal.invariant-loop-number
invariant-loop-number g l = record {
  each : (number : ℕ) (entry : Entry g.row.T.Denot) → number < l.number → Contains (entries_at l.groups number) entry
      → IsGroupFound l.index number entry.patterns entry.end;
  kept : KeepsAll l.fn.index l.index;
}
