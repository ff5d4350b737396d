use Rattle.sleepers.proofs.Vocabulary.{◌++◌, ◌∷◌, [], rules, sym, ◌∙◌, ap, arith, entries_at}
use Rattle.sleepers.proofs.GroupLookLemmas.{below_all, below_asleep, below_awake, none_below, one_group_more}
use Rattle.sleepers.proofs.awake_groups.woken_of_all.Goals as goal

pub loop-number-init : goal.loop-number-init
loop-number-init g c = ([], none_below c.args.events.now c.args.time c.args.groups.now, search rules)

pub loop-number-preserved-then-not-is_awake : goal.loop-number-preserved-then-not-is_awake
loop-number-preserved-then-not-is_awake g c =
    let (numbers, is, are) = c.loop-number.invariant in (
      numbers,
      below_asleep c.args.events.now c.args.time c.args.groups.now c.loop-number.number numbers (c.is_awake.ensures.asleep c.if-not-is_awake.true (c.requires c.loop-number.number)) is,
      are,
    )

pub loop-number-preserved : goal.loop-number-preserved
loop-number-preserved g c =
    let groups = c.args.groups.now in
    let number = c.loop-number.number in
    let (numbers, is, are) = c.loop-number.invariant in (
      numbers ++ number ∷ [],
      below_awake c.args.events.now c.args.time groups number numbers (c.is_awake.ensures.awake c.if-not-is_awake.false (c.requires number)) is,
      c.in_ok-push_entries.ensures ∙ ap (λ l. l ++ entries_at groups number) are ∙ sym (one_group_more groups numbers number),
    )

pub returns : goal.returns
returns g c =
    let (numbers, is, are) = c.loop-number.invariant in
    record {
      numbers = numbers;
      awake = below_all c.args.events.now c.args.time c.args.groups.now c.loop-number.number numbers (omega (arith, c.loop-number-test.false, c.len-number-end.ensures)) is;
      are = are;
    }
