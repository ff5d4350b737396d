use Rattle.choice_step.proofs.Vocabulary.{All, subst, take_all, All-more, IsAway}
use Rattle.choice_step.proofs.rule_triggers.has_none_of.Goals as goal

pub loop-name-preserved : goal.loop-name-preserved
loop-name-preserved c =
    All-more (IsAway c.args.events.now) c.args.names.now c.loop-name.name-index _ c.loop-name-test.true c.loop-name.invariant (c.is_away.ensures c.if-not-is_away.false)

pub returns : goal.returns
returns c all = subst (All (IsAway c.args.events.now)) (take_all c.loop-name.name-index c.args.names.now c.loop-name-test.false) c.loop-name.invariant
