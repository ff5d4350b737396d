use Rattle.choice_step.proofs.Vocabulary.{arith, refl}
use Rattle.choice_step.proofs.RouseLemmas.{told_of_all, told_of_more, told_of_nobody}
use Rattle.choice_step.proofs.apply_actions.rouse.Goals as goal

pub loop-unasked-init : goal.loop-unasked-init
loop-unasked-init c =
    (refl, refl, omega arith, c.requires, told_of_nobody c.args.actions.now c.args.unasked.now.roused c.args.unasked.now.asking c.requires)

pub loop-unasked-preserved : goal.loop-unasked-preserved
loop-unasked-preserved c =
    let was = c.loop-unasked.invariant in (
      was.0,
      was.1,
      omega (arith, was.2),
      omega (arith, c.loop-unasked-test.true),
      told_of_more c.args.actions.now c.args.unasked.now.roused c.loop-unasked.unasked.roused c.index-actions-unasked.result c.args.unasked.now.asking c.loop-unasked.unasked.asking c.rouse_by.new.asking
          was.2 c.loop-unasked-test.true c.index-actions-unasked.is was.4 c.in_ok-rouse_by.ensures,
    )

pub returns-clause-rouses : goal.returns-clause-rouses
returns-clause-rouses c =
    let was = c.loop-unasked.invariant in
    told_of_all c.args.actions.now c.args.unasked.now.roused c.loop-unasked.unasked.roused c.args.unasked.now.asking c.loop-unasked.unasked.asking c.loop-unasked-test.false was.4
