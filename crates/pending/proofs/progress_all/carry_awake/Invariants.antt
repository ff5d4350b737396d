use Rattle.pending.proofs.Vocabulary.{◌≡◌, ℕ, length, map, AllByRecursion, IsDeadlineQueue, held_count, plan_of, guards_now, CanAskOf, count_due, WalksEntries, ArePendingEntries, items_of}
use Rattle.pending.proofs.progress_all.carry_awake.Given as goal

abbrev pub invariant-loop-entry : goal.invariant-loop-entry
invariant-loop-entry l =
    WalksEntries l.now (map plan_of l.plans) l.inserted l.later l.initial.sleepers.entries l.initial.sleepers.ahead l.sleepers.entries l.sleepers.ahead l.more.items
    × ((steps : ℕ) → ArePendingEntries steps l.initial.sleepers.entries → ArePendingEntries steps l.sleepers.entries)
    × AllByRecursion (CanAskOf (guards_now l.now) (map plan_of l.plans)) (items_of l.sleepers.ahead)
    × ((deadline : ℕ) → held_count l.deadlines deadline ≡ count_due (map plan_of l.plans) (items_of l.sleepers.entries) deadline) × IsDeadlineQueue l.deadlines

abbrev pub decreases-loop-entry : goal.decreases-loop-entry
decreases-loop-entry l = length l.sleepers.ahead
