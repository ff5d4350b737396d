use Rattle.choice_step.proofs.UnmovedLemmas.{fewer_ahead, passed_more, passed_none}
use Rattle.choice_step.proofs.apply_actions.pass_unmoved.Goals as goal

pub loop-instance-init : goal.loop-instance-init
loop-instance-init c = passed_none _ c.args.kind c.args.name c.args.asking.now

pub loop-instance-preserved : goal.loop-instance-preserved
loop-instance-preserved c =
    passed_more _ c.args.kind c.args.name c.args.asking.now c.loop-instance.asking c.met.new.self c.in-Some.instance.now c.loop-instance.invariant c.in-Some.ensures.some
    c.in_ok-met.ensures (c.stays_met.ensures c.if-not-stays_met.false)

pub loop-instance-smaller : goal.loop-instance-smaller
loop-instance-smaller c = fewer_ahead c.loop-instance.asking c.met.new.self c.in-Some.instance.now c.in-Some.ensures.some c.in_ok-met.ensures
