use Rattle.monitorable_guard.proofs.Vocabulary.{◌≡◌, All, length, take}
use Rattle.monitorable_guard.proofs.guard_rows.fit.Given as goal

abbrev pub invariant-loop-event : goal.invariant-loop-event
invariant-loop-event l = All (λ event. length event.now.args ≡ l.width) (take l.event-index l.events)
