use Rattle.enforcer_core.proofs.Vocabulary.{List, map, subst, take_all, AllByRecursion, plan_of, LooksAtNow}
use Rattle.plan_terms.specs.declared.plans.Plan.{Plan as StoredPlan}
use Rattle.enforcer_core.proofs.PresentLemmas.{all_one_more, looks_at_now}
use Rattle.enforcer_core.proofs.plan_facts.none_looks_ahead.Goals as goal

pub loop-plan-preserved : goal.loop-plan-preserved
loop-plan-preserved c =
    all_one_more plan_of c.args.plans.now c.loop-plan.plan-index c.plan-item.result c.loop-plan-test.true c.plan-item.is c.loop-plan.invariant
    (looks_at_now c.has_future.result (plan_of c.plan-item.result) c.has_future.ensures c.if-has_future.false)

pub returns : goal.returns
returns c = λ none.
    subst (λ (l : List StoredPlan). AllByRecursion LooksAtNow (map plan_of l)) (take_all c.loop-plan.plan-index c.args.plans.now c.loop-plan-test.false) c.loop-plan.invariant
