use Rattle.sleepers.proofs.Vocabulary.{ℕ, ◌⊎◌, Contains, take, shown, entries_at, held, IsContainedIn, Entry}
use Rattle.sleepers.specs.machine.Agendas.{LeavesAsleep}
use Rattle.sleepers.proofs.rousing.push_each.Given as goal

abbrev pub invariant-loop-number : goal.invariant-loop-number
invariant-loop-number g l = record {
  among : IsContainedIn (shown l.entries.items) (held l.groups);
  all : (number : ℕ) (x : Entry g.row.T.Denot) → Contains (take l.number-index l.numbers) number → Contains (entries_at l.groups number) x
      → Contains (shown l.entries.items) x ⊎ LeavesAsleep l.event x;
}
