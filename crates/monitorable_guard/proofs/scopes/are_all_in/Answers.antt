use Rattle.monitorable_guard.proofs.Vocabulary.{refl, subst, All, Contains, take_all, All-more}
use Rattle.monitorable_guard.proofs.scopes.are_all_in.Goals as goal

pub loop-x-preserved : goal.loop-x-preserved
loop-x-preserved c = All-more (Contains c.args.others.now) c.args.xs.now c.loop-x.x-index _ c.loop-x-test.true c.loop-x.invariant (c.is_in.ensures.0 c.if-not-is_in.false)

pub returns : goal.returns
returns c = (λ _. subst (All (Contains c.args.others.now)) (take_all c.loop-x.x-index c.args.xs.now c.loop-x-test.false) c.loop-x.invariant, λ _. refl)
