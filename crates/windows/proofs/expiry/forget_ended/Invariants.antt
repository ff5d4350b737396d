use Rattle.windows.proofs.Vocabulary.{◌⊎◌, ◌≤◌, ℕ, Some, length, Contains, AreWindowEntries, Due, Forgets, IsSettledAt, LetsGo, IsEndedTime, count_pairs}
use Rattle.windows.proofs.expiry.forget_ended.Given as goal

abbrev pub invariant-loop-due : goal.invariant-loop-due
invariant-loop-due l =
    ((long : ℕ) → AreWindowEntries long l.now l.fn.entries.entries → AreWindowEntries long l.now l.entries.entries)
    × Forgets l.interval l.now l.fn.entries.entries l.entries.entries
    × ((d : Due) → Contains l.fn.queue.dues d → IsSettledAt l.high l.interval.low l.now l.entries.entries d.place ⊎ Contains l.queue.dues d)
    × LetsGo (IsEndedTime (Some l.high) l.now) (IsEndedTime (Some l.high) l.now) l.fn.queue l.queue
    × (l.left ≤ count_pairs l.entries.entries)

abbrev pub decreases-loop-due : goal.decreases-loop-due
decreases-loop-due l = length l.queue.dues
