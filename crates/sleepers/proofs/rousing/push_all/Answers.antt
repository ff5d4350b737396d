use Rattle.sleepers.proofs.Vocabulary.{arith, shown}
use Rattle.sleepers.proofs.RousedLemmas.{roused_all, roused_more, roused_none}
use Rattle.sleepers.proofs.rousing.push_all.Goals as goal

pub loop-number-init : goal.loop-number-init
loop-number-init g c = roused_none c.args.event.now c.args.groups.now (shown c.args.entries.now.items) c.requires.among

pub loop-number-preserved : goal.loop-number-preserved
loop-number-preserved g c =
    let pushed = c.in_ok-push_roused.ensures in
    roused_more c.args.event.now c.args.groups.now c.loop-number.number (shown c.loop-number.entries.items) (shown c.push_roused.new.entries.items) c.loop-number.invariant
    pushed.kept pushed.among pushed.all

pub returns : goal.returns
returns g c =
    roused_all c.args.event.now c.args.groups.now c.loop-number.number (shown c.loop-number.entries.items)
    (omega (arith, c.loop-number-test.false, c.len-number-end.ensures)) c.loop-number.invariant

pub push_roused-requires-clause-alike : goal.push_roused-requires-clause-alike
push_roused-requires-clause-alike g c = c.requires.alike c.loop-number.number
