use Rattle.pending.proofs.Vocabulary.{◌≡◌, ◌++◌, ℕ, map, AllByRecursion, IsDeadlineQueue, held_count, plan_of, count_due, CanPutIn, PutsInEntries, ArePendingEntries, FitsStep, items_of}
use Rattle.pending.proofs.progress_all.put_each.Given as goal

abbrev pub invariant-loop-entry : goal.invariant-loop-entry
invariant-loop-entry l =
    (l.initial.entry-iterator.rest.items ≡ l.yielded ++ l.entry-iterator.rest.items) × PutsInEntries l.yielded l.initial.sleepers.entries l.sleepers.entries
    × CanPutIn l.entry-iterator.rest.items l.sleepers.entries
    × ((steps : ℕ) → ArePendingEntries steps l.initial.sleepers.entries → AllByRecursion (FitsStep steps) l.yielded → ArePendingEntries steps l.sleepers.entries)
    × ((deadline : ℕ) → held_count l.deadlines deadline ≡ count_due (map plan_of l.plans) (items_of l.sleepers.entries) deadline) × IsDeadlineQueue l.deadlines
