-- The next turn's bytes follow those that were emitted before.
use Rattle.std.proofs.Common.{arith, length-take, length-drop, ◌∙◌}
use Rattle.enf_io.proofs.Exchanges.{Gave-more}
use Rattle.enf_io.proofs.writing.write_all.Goals as goal

pub loop-written-preserved : goal.loop-written-preserved
loop-written-preserved g c = record {
  within = let within = simp (length-take, length-drop) at c.in-Ok.ensures.within in omega arith;
  given = Gave-more _ _ _ _ _ _ c.loop-written.invariant.given c.in-Ok.ensures.gave;
  writes = c.in-Ok.ensures.writes ∙ c.loop-written.invariant.writes;
  reads = c.in-Ok.ensures.reads ∙ c.loop-written.invariant.reads;
  late = c.in-Ok.ensures.late ∙ c.loop-written.invariant.late;
}
