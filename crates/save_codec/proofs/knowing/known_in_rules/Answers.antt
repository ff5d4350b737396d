use Rattle.save_codec.proofs.KnowLemmas.{rules_step}
use Rattle.save_codec.proofs.knowing.known_in_rules.Goals as goal

pub loop-plan-preserved : goal.loop-plan-preserved
loop-plan-preserved c =
    rules_step c.args.signature.now c.args.plans.now c.loop-plan.plan-index c.plan-item.result c.loop-plan.known.items c.push.new.self.items c.in_ok-known_in_rule.field-0
    c.loop-plan-test.true c.plan-item.is c.loop-plan.invariant c.in_ok-known_in_rule.ensures c.in_ok-push.ensures.items
