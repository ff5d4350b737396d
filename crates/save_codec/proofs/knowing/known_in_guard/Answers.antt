use Rattle.save_codec.proofs.Vocabulary.{List, map, subst, take_all, plan_of, KnowsJust, GuardTells}
use Rattle.plan_terms.specs.declared.plans.Plan.{Plan}
use Rattle.save_codec.proofs.KnowLemmas.{guard_step}
use Rattle.save_codec.proofs.knowing.known_in_guard.Goals as goal

pub loop-plan-preserved : goal.loop-plan-preserved
loop-plan-preserved c =
    guard_step c.args.signature.now c.args.plans.now c.args.guard c.loop-plan.plan-index c.plan-item.result c.loop-plan.known c.note_plan_of.new.self
    c.loop-plan-test.true c.plan-item.is c.loop-plan.invariant c.in_ok-note_plan_of.ensures

pub returns : goal.returns
returns c =
    subst (λ (plans : List Plan). KnowsJust (GuardTells c.args.signature.now (map plan_of plans) c.args.guard) c.loop-plan.known)
    (take_all c.loop-plan.plan-index c.args.plans.now c.loop-plan-test.false) c.loop-plan.invariant
