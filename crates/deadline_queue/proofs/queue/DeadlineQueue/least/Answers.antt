use Rattle.std.specs.Prelude.{◌≡◌, ℕ, List, [], ◌∷◌, Some}
use Rattle.std.specs.List.{slice_get}
use Rattle.std.proofs.Common.{subst}
use Rattle.std.proofs.lemmas.Option.{same_Some, none-some}
use Rattle.deadline_queue.specs.machine.Queues.{IsLeastOf, IsDeadlineQueue, held_deadlines}
use Rattle.deadline_queue.proofs.QueueLaws.{first_is_least}
use Rattle.deadline_queue.proofs.queue.DeadlineQueue.least.Goals as goal

least_of : (queue : List (ℕ × ℕ)) (pair : ℕ × ℕ) → IsDeadlineQueue queue → slice_get queue 0 ≡ Some pair
    → IsLeastOf (held_deadlines queue) (Some pair.0)
least_of [] pair queue is = absurd (none-some pair is)
least_of (first ∷ pairs) pair queue is =
    subst (λ p. IsLeastOf (held_deadlines (first ∷ pairs)) (Some p.0)) (same_Some first pair is)
    (first_is_least first pairs queue)

pub returns-in-Some : goal.returns-in-Some
returns-in-Some c =
    subst (λ queue. IsLeastOf (held_deadlines queue) (Some c.in-Some.deadline.now)) c.self.view_is
    (least_of c.self.inside.counts.entries (c.in-Some.deadline.now, c.in-Some.field-0-1.now) c.self.invariant c.in-Some.ensures.first)
