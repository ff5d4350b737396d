use Rattle.obligations.proofs.Vocabulary.{[], subst, sym, tree_of, plan_of, HoldsNowhere, Begun}
use Rattle.obligations.proofs.EmptyGuardLemmas.{asleep}
use Rattle.obligations.proofs.empty_guards.is_asleep.Goals as goal

pub returns-in-Guarded : goal.returns-in-Guarded
returns-in-Guarded c = λ none trace is rule v.
    let g = c.in-Guarded in
    let now = c.args.now.now in
    let lacks = subst (λ f. HoldsNowhere now.events.now (tree_of f)) c.deref.ensures (c.lacks_event.ensures none) in
    subst (λ p. Begun trace rule (plan_of p) v []) (sym g.is)
    (asleep now g.node g.vars g.guard (tree_of g.test.value) (plan_of g.body.value) lacks trace is rule v)
