use Rattle.windows.proofs.Vocabulary.{◌⊎◌, ◌≤◌, ◌-◌, ℕ, length, Contains, AreWindowEntries, Due, Forgets, IsSettledAt, LetsGo, count_pairs, waiting_of}
use Rattle.windows.proofs.expiry.forget_far.Given as goal

abbrev pub invariant-loop-due : goal.invariant-loop-due
invariant-loop-due l =
    ((long : ℕ) → AreWindowEntries long l.now l.fn.entries.entries → AreWindowEntries long l.now l.entries.entries)
    × Forgets l.interval l.now l.fn.entries.entries l.entries.entries
    × ((d : Due) → Contains (waiting_of l.fn.queue) d → IsSettledAt l.high l.interval.low l.now l.entries.entries d.place ⊎ Contains (waiting_of l.queue) d)
    × LetsGo (λ _. ⊥) (λ time. l.interval.low ≤ l.now - time) l.fn.queue l.queue
    × (l.left ≤ count_pairs l.entries.entries)

abbrev pub decreases-loop-due : goal.decreases-loop-due
decreases-loop-due l = length (waiting_of l.queue)
