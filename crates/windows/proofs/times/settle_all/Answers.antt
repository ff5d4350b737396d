use Rattle.windows.proofs.Vocabulary.{subst, sym}
use Rattle.windows.proofs.TimeLemmas.{Passes, passed_shorter, passes_enough, passes_more, passes_none}
use Rattle.windows.proofs.times.settle_all.Goals as goal

pub loop-times-init : goal.loop-times-init
loop-times-init c = passes_none c.args.high c.args.low c.args.now c.args.times.now.items c.requires

pub loop-times-preserved : goal.loop-times-preserved
loop-times-preserved c =
    subst (Passes c.args.high c.args.low c.args.now c.args.times.now.items) (sym c.pop_front.ensures.rest)
    (passes_more c.args.high c.args.low c.args.now c.args.times.now.items c.loop-times.times.items (c.is_first_passed.ensures.passed c.loop-times-test.true) c.loop-times.invariant)

pub loop-times-smaller : goal.loop-times-smaller
loop-times-smaller c =
    passed_shorter c.args.high c.args.low c.args.now c.loop-times.times.items c.pop_front.new.self.items c.pop_front.ensures.rest (c.is_first_passed.ensures.passed c.loop-times-test.true)

pub returns : goal.returns
returns c = passes_enough c.args.high c.args.low c.args.now c.args.times.now.items c.loop-times.times.items (c.is_first_passed.ensures.held c.loop-times-test.false) c.loop-times.invariant
