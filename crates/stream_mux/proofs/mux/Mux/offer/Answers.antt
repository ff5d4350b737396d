use Rattle.std.proofs.Common.{length, sym}
use Rattle.stream_mux.specs.meaning.MergedStreams.{waiting_steps, with_offer}
use Rattle.stream_mux.proofs.MuxSteps.{Admitted, lined_after, offer_taken}
use Rattle.stream_mux.proofs.mux.Mux.offer.Goals as goal

pub returns-clause-sent : goal.returns-clause-sent
returns-clause-sent c = λ history stands.
    let admitted : Admitted c.args.self.now c.args.stream c.args.offer c.admit.new.self = record {
      marks = c.in_ok-admit.ensures.marks;
      queues = c.in_ok-admit.ensures.queues;
      greatest = c.in_ok-admit.ensures.greatest;
    } in
    let none = sym c.in_default.ensures.refusal in
    (offer_taken c.args.self.now c.admit.new.self c.send.new.self history c.args.stream c.args.offer c.in_ok-send.field-0.items
    stands none admitted c.in_ok-send.ensures.marks
    (c.in_ok-send.ensures.sends (with_offer c.args.stream c.args.offer (waiting_steps (length c.args.self.now.marks) history))
    (lined_after c.args.self.now c.admit.new.self history c.args.stream c.args.offer stands none c.refusal.ensures.streams admitted))).sends

pub returns-clause-stands : goal.returns-clause-stands
returns-clause-stands c = λ history stands.
    let admitted : Admitted c.args.self.now c.args.stream c.args.offer c.admit.new.self = record {
      marks = c.in_ok-admit.ensures.marks;
      queues = c.in_ok-admit.ensures.queues;
      greatest = c.in_ok-admit.ensures.greatest;
    } in
    let none = sym c.in_default.ensures.refusal in
    (offer_taken c.args.self.now c.admit.new.self c.send.new.self history c.args.stream c.args.offer c.in_ok-send.field-0.items
    stands none admitted c.in_ok-send.ensures.marks
    (c.in_ok-send.ensures.sends (with_offer c.args.stream c.args.offer (waiting_steps (length c.args.self.now.marks) history))
    (lined_after c.args.self.now c.admit.new.self history c.args.stream c.args.offer stands none c.refusal.ensures.streams admitted))).stands
