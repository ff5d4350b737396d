use Rattle.rank_check.proofs.Vocabulary.{◌≡◌, max, arith, map, rules, take, common_steps, plan_of, plan_size, IsSmallPlan}
use Rattle.rank_check.proofs.SurveyLemmas.{item_push, measure_push, of_item}
use Rattle.rank_check.proofs.horizon.greatest_size.Goals as goal

pub size-requires : goal.size-requires
size-requires c = omega (arith, of_item IsSmallPlan c.args.plans.now c.loop-plan.plan-index c.plan-item.result c.requires (omega arith) c.plan-item.is)

pub loop-plan-preserved : goal.loop-plan-preserved
loop-plan-preserved c =
    let i = c.loop-plan.plan-index in
    let before = map plan_of (take i c.args.plans.now) in
    let more = measure_push plan_size before _ _ (item_push c.args.plans.now i c.plan-item.result (omega arith) c.plan-item.is) in
    let larger : c.max-most.result ≡ max c.loop-plan.most c.size.result = first_of (search rules, grind (arith, common_steps)) in
    omega (arith, more, larger, c.loop-plan.invariant, c.size.ensures)
