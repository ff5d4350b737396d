use Rattle.monitorable_guard.proofs.Vocabulary.{◌≡◌, All, List, length, subst, Bor, take_all, All-map, Event, Value}
use Rattle.monitorable_guard.proofs.guard_rows.fit.Goals as goal

pub returns : goal.returns
returns c = λ _. All-map (λ (row : List Value). length row ≡ c.args.width) (λ (event : Bor Event). event.now.args) c.args.events.now
    (subst (All (λ (event : Bor Event). length event.now.args ≡ c.args.width)) (take_all c.loop-event.event-index c.args.events.now c.loop-event-test.false) c.loop-event.invariant)
