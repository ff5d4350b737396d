use Rattle.rank_check.proofs.Vocabulary.{map, sym, arith, length-map, plan_of, plan_at}
use Rattle.rank_check.proofs.BareLemmas.{first_of_plans, none_bare, one_more}
use Rattle.rank_check.proofs.untriggered_nodes.first_untriggered.Goals as goal

pub returns-in-Some-clause-found : goal.returns-in-Some-clause-found
returns-in-Some-clause-found c =
    first_of_plans (map plan_of c.args.plans.now) c.loop-plan.plan-index (plan_of c.plan-item.result) c.in-Some.place c.requires c.loop-plan.invariant
    (plan_at c.args.plans.now c.loop-plan.plan-index c.plan-item.result c.loop-plan-test.true c.plan-item.is) (sym c.in-Some.ensures)

pub loop-plan-preserved : goal.loop-plan-preserved
loop-plan-preserved c =
    one_more (map plan_of c.args.plans.now) c.loop-plan.plan-index (plan_of c.plan-item.result) c.loop-plan.invariant
    (plan_at c.args.plans.now c.loop-plan.plan-index c.plan-item.result c.loop-plan-test.true c.plan-item.is) (sym c.in_default.ensures)

pub returns-clause-none : goal.returns-clause-none
returns-clause-none c = none_bare (map plan_of c.args.plans.now) (λ rule plan below. c.loop-plan.invariant rule plan
    (omega (arith, below, length-map c.args.plans.now plan_of, c.loop-plan-test.false)))
