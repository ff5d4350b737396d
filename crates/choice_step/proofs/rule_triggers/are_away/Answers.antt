use Rattle.choice_step.proofs.Vocabulary.{All, subst, take_all, All-more, IsAway}
use Rattle.choice_step.proofs.IdleStepLemmas.{away_from}
use Rattle.choice_step.proofs.rule_triggers.are_away.Goals as goal

pub loop-name-preserved : goal.loop-name-preserved
loop-name-preserved c =
    All-more (IsAway c.args.events.now) c.args.names.now c.loop-name.name-index _ c.loop-name-test.true c.loop-name.invariant
    (away_from c.args.events.now _ (c.none_named.ensures c.if-not-none_named.false))

pub returns : goal.returns
returns c all = subst (All (IsAway c.args.events.now)) (take_all c.loop-name.name-index c.args.names.now c.loop-name-test.false) c.loop-name.invariant
