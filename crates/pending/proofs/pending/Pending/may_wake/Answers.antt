use Rattle.pending.proofs.Vocabulary.{subst, [], AllButThose, step_moment, IsAsleep, SleepsNow, PendingList}
use Rattle.pending.proofs.PendingListLemmas.{listed_but}
use Rattle.pending.proofs.pending.Pending.may_wake.Goals as goal

pub returns : goal.returns
returns c = λ none.
    let all = c.self.inside.sleepers.entries in
    let moment = step_moment c.args.inserted c.args.time in
    subst (λ (p : PendingList). AllButThose (SleepsNow c.args.events.now moment) p.listed []) c.self.view_is
    (listed_but c.args.events.now moment all []
    (subst (λ n. AllButThose (IsAsleep c.args.events.now n) all []) c.step_moment.ensures (c.may_wake.ensures none)))
