use Rattle.pending.proofs.Vocabulary.{◌≡◌, ◌++◌, ℕ, List, [], length, map, IsDeadlineQueue, held_count, plan_of, count_due, Instance, ArePendingEntries, entries_from, items_of}
use Rattle.pending.proofs.progress_all.put_listed.Given as goal

abbrev pub invariant-loop-instance : goal.invariant-loop-instance
invariant-loop-instance l =
    ((put : List Instance) × (l.initial.instances.items ≡ l.instances.items ++ put)
    × (l.sleepers.entries ≡ entries_from (map plan_of l.plans) l.time [] 0 (length l.instances.items) put))
    × ArePendingEntries 1 l.sleepers.entries × ((deadline : ℕ) → held_count l.deadlines deadline ≡ count_due (map plan_of l.plans) (items_of l.sleepers.entries) deadline)
    × IsDeadlineQueue l.deadlines

abbrev pub decreases-loop-instance : goal.decreases-loop-instance
decreases-loop-instance l = length l.instances.items
