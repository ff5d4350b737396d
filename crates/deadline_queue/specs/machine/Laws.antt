-- The statements of the laws of queues of deadlines.
use Rattle.std.specs.List.{count_by}
use Rattle.std.specs.Prelude.{◌≡◌, ℕ, List, ◌==◌}
use Rattle.deadline_queue.specs.machine.Queues.{held_count, IsDeadlineQueue, held_deadlines}

-- each deadline is held as often by both queues
abbrev pub HoldAlike : (queue other : List (ℕ × ℕ)) → Type 0
HoldAlike queue other = (deadline : ℕ) → held_count queue deadline ≡ held_count other deadline

-- two queues that hold each deadline alike are the same
abbrev pub OneDeadlineQueue : Type 0
OneDeadlineQueue = (queue other : List (ℕ × ℕ)) → IsDeadlineQueue queue → IsDeadlineQueue other
    → HoldAlike queue other → queue ≡ other

-- a deadline stands in the list as often as it is held
abbrev pub EntriesAreHeld : Type 0
EntriesAreHeld = (queue : List (ℕ × ℕ)) (deadline : ℕ) → IsDeadlineQueue queue
    → count_by (λ entry. entry == deadline) (held_deadlines queue) ≡ held_count queue deadline
