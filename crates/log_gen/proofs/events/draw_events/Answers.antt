-- The events of one pair of draws more.
use Rattle.std.proofs.Common.{ap, ◌∙◌, arith}
use Rattle.log_gen.proofs.PutEvents.{put_drawn}
use Rattle.log_gen.proofs.events.draw_events.Goals as goal

pub loop-preserved : goal.loop-preserved
loop-preserved c =
    let after = c.in_ok-event.ensures.after in
    record {
      start = ap (λ d. d.start) after ∙ c.loop.invariant.start;
      made = omega (arith, ap (λ d. d.made) after, c.loop.invariant.made);
      events = put_drawn _ _ _ _ _ _ _ _ c.loop.invariant.start c.loop.invariant.made c.loop.invariant.events c.in_ok-event.ensures.event c.in_ok-put_event.ensures;
    }
