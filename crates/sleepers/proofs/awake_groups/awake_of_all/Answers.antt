use Rattle.sleepers.proofs.Vocabulary.{◌+◌, sym, subst, arith}
use Rattle.sleepers.proofs.GroupLookLemmas.{AreAwakeBelow, below_all, below_asleep, below_awake, none_below}
use Rattle.sleepers.proofs.awake_groups.awake_of_all.Goals as goal

pub loop-number-init : goal.loop-number-init
loop-number-init g c =
    let groups = c.args.groups.now in
    subst (AreAwakeBelow c.args.events.now c.args.time groups 0) (sym c.clear.ensures.items) (none_below c.args.events.now c.args.time groups)

pub loop-number-preserved-then-not-is_awake : goal.loop-number-preserved-then-not-is_awake
loop-number-preserved-then-not-is_awake g c =
    let number = c.loop-number.number in
    below_asleep c.args.events.now c.args.time c.args.groups.now number c.loop-number.numbers.items
    (c.is_awake.ensures.asleep c.if-not-is_awake.true (c.requires number)) c.loop-number.invariant

pub loop-number-preserved : goal.loop-number-preserved
loop-number-preserved g c =
    let groups = c.args.groups.now in
    let number = c.loop-number.number in
    subst (AreAwakeBelow c.args.events.now c.args.time groups (number + 1)) (sym c.in_ok-push.ensures.items)
    (below_awake c.args.events.now c.args.time groups number c.loop-number.numbers.items
    (c.is_awake.ensures.awake c.if-not-is_awake.false (c.requires number)) c.loop-number.invariant)

pub returns : goal.returns
returns g c =
    below_all c.args.events.now c.args.time c.args.groups.now c.loop-number.number c.loop-number.numbers.items
    (omega (arith, c.loop-number-test.false, c.len-number-end.ensures)) c.loop-number.invariant
