use Rattle.std.proofs.Common.{ap, length, refl, subst, sym, ◌∙◌}
use Rattle.stream_mux.specs.machine.MuxQueues.{GivesFront, GivesUpTo}
use Rattle.stream_mux.proofs.LinedUpQueues.{all_held, gives_more, gives_nothing}
use Rattle.stream_mux.proofs.releasing.release.Goals as goal

pub loop-item-init : goal.loop-item-init
loop-item-init c = record {
  gives = λ steps lined. gives_nothing c.args.bound steps c.args.given.now.items c.args.waiting.now lined;
  streams = refl;
}

pub loop-item-preserved : goal.loop-item-preserved
loop-item-preserved c = record {
  gives = λ steps lined.
      subst (λ items. GivesFront c.args.bound steps c.args.given.now.items items c.take_up_to.new.self) (sym c.in_ok-push.ensures.items)
      (gives_more c.args.bound steps c.args.given.now.items c.loop-item.given.items c.loop-item.waiting c.take_up_to.new.self c.in-Some.item
      (c.loop-item.invariant.gives steps lined) c.in-Some.ensures.some);
  streams = c.in-Some.ensures.streams ∙ c.loop-item.invariant.streams;
}

pub returns : goal.returns
returns c = record {
  gives = λ steps lined.
      let gives = c.loop-item.invariant.gives steps lined in
      subst (GivesUpTo c.args.bound steps c.args.given.now.items c.loop-item.given.items) (sym c.in_default.ensures.none) (record {
        gives = gives;
        held = all_held c.args.bound c.loop-item.waiting gives.left gives.lined_up c.in_default.ensures.held;
      });
  streams = ap length c.in_default.ensures.none ∙ c.loop-item.invariant.streams;
}
