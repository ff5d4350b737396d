-- There are no more records than bytes that were taken.
use Rattle.std.proofs.Common.{arith}
use Rattle.std.proofs.lemmas.Grind.{common_steps}
use Rattle.enf_slice.proofs.SplitLemmas.{fed_most}
use Rattle.enf_slice.proofs.run.split_log.Goals as goal

pub loop-taken-preserved : goal.loop-taken-preserved
loop-taken-preserved g c =
    let fed = fed_most c.loop-taken.splitter c.feed.new.self _ c.loop-taken.invariant.splitting c.in_ok-feed.ensures.ok in
    let few = c.in_ok-refused.ensures.few in
    let inv = c.loop-taken.invariant in
    record {
      splitting = rw c.in_default.is at c.in_ok-refused.ensures.still;
      pending = rw c.in_default.is at c.in_ok-refused.ensures.pending;
      few = grind (arith, common_steps, fed, few, inv.few);
      room = grind (arith, common_steps, inv.room);
      most = grind (arith, common_steps, inv.most, inv.room);
    }
