use Rattle.std.proofs.Common.{None, length, subst, sym}
use Rattle.stream_mux.specs.machine.MuxQueues.{AreLinedUp, GivesUpTo}
use Rattle.stream_mux.specs.meaning.MergedStreams.{waiting_steps}
use Rattle.stream_mux.proofs.MuxSteps.{gives_rest, lined_standing}
use Rattle.stream_mux.proofs.mux.Mux.finish.Goals as goal

pub returns : goal.returns
returns c = record {
  rest = λ history stands.
      let steps = waiting_steps (length c.args.self.marks) history in
      gives_rest c.args.self history c.release.new.given.items c.release.new.waiting stands
      (subst (λ given. GivesUpTo None steps given c.release.new.given.items c.release.new.waiting) c.new-given.ensures.items
      (c.in_ok-release.ensures.gives steps
      (subst (λ mux. AreLinedUp mux.queues steps) (sym c.self.view_is) (lined_standing c.args.self history stands))));
}
