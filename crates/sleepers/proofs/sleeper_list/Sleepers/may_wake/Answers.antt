use Rattle.sleepers.proofs.Vocabulary.{[], subst, AllButThose, IsAsleep}
use Rattle.sleepers.proofs.EachEventLemmas.{all_asleep}
use Rattle.sleepers.proofs.sleeper_list.Sleepers.may_wake.Goals as goal

pub returns : goal.returns
returns g c = λ none.
    subst (λ s. AllButThose (IsAsleep c.args.events.now c.args.time) s.entries []) c.self.view_is
    (all_asleep c.args.time c.args.events.now c.self.inside.groups (c.may_wake.ensures none))
