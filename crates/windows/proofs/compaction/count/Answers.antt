use Rattle.windows.proofs.Vocabulary.{◌∙◌, ap, arith, count_times}
use Rattle.windows.proofs.compaction.count.Goals as goal

pub loop-times-init : goal.loop-times-init
loop-times-init c = omega (arith, ap count_times (c.into_iter-times-iterator.ensures.into_iter_gives ∙ c.values-times-items.ensures.rest))

pub loop-times-preserved : goal.loop-times-preserved
loop-times-preserved c = omega (arith, c.loop-times.invariant, ap count_times c.in-Some.ensures.steps, c.saturating_add-pairs.ensures, c.len.ensures)

pub returns : goal.returns
returns c = omega (arith, c.loop-times.invariant)
