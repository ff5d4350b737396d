use Rattle.save_codec.proofs.Vocabulary.{map, plan_of}
use Rattle.save_codec.proofs.KnowLemmas.{windows_step}
use Rattle.save_codec.proofs.knowing.known_in_windows.Goals as goal

pub loop-shape-preserved : goal.loop-shape-preserved
loop-shape-preserved c =
    windows_step c.args.signature.now (map plan_of c.args.plans.now) c.args.shapes.now c.loop-shape.shape-index c.shape-item.result c.loop-shape.known.items c.push.new.self.items
    c.in_ok-known_in_guard.field-0
    c.loop-shape-test.true c.shape-item.is c.loop-shape.invariant c.in_ok-known_in_guard.ensures c.in_ok-push.ensures.items
