use Rattle.pending.proofs.Vocabulary.{List, subst, ◌≡◌, ◌∙◌, Event, IsAllBut, IsAsleep}
use Rattle.std.specs.Prelude.{IfSome, OnOk}
use Rattle.pending.proofs.progress_all.wake.Goals as goal

pub returns-in-Some-clause-ok : goal.returns-in-Some-clause-ok
returns-in-Some-clause-ok c =
    let same = subst (λ o. IfSome o (λ events. events.now ≡ c.args.events.now)) c.in-Some.is c.listed.ensures in
    subst (λ (l : List Event). OnOk c.wake.result (IsAllBut (IsAsleep l c.args.moment) c.args.sleepers.now.entries c.wake.new.self.ahead)) same c.wake.ensures.ok

pub returns-clause-ok : goal.returns-clause-ok
returns-clause-ok c =
    subst (λ (l : List Event). OnOk c.wake-2.result (IsAllBut (IsAsleep l c.args.moment) c.args.sleepers.now.entries c.wake-2.new.self.ahead))
    (c.as_slice.ensures.events ∙ c.in_ok-set.ensures) c.wake-2.ensures.ok
