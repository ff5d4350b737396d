use Rattle.std.proofs.Common.{None, Some, ap, arith, length, refl, set, sym, ◌∙◌, ◌∷◌}
use Rattle.std.proofs.lemmas.List.{length-map}
use Rattle.stream_mux.specs.machine.MuxQueues.{front_time}
use Rattle.stream_mux.proofs.QueueEdits.{holds_back, map_set_is, takes_first}
use Rattle.stream_mux.proofs.waiting.Waiting.take_up_to.Goals as goal

pub returns-in-None-clause-held : goal.returns-in-None-clause-held
returns-in-None-clause-held c =
    holds_back c.self.inside.queues.items (λ queue. queue.items) c.self.inside.fronts c.args.self.now c.args.bound None
    c.in-None.ensures c.self.invariant c.self.view_is tt

pub returns-then-not-is_up_to_turn-clause-held : goal.returns-then-not-is_up_to_turn-clause-held
returns-then-not-is_up_to_turn-clause-held c =
    holds_back c.self.inside.queues.items (λ queue. queue.items) c.self.inside.fronts c.args.self.now c.args.bound (Some c.in-Some.turn)
    c.in-Some.ensures c.self.invariant c.self.view_is (sym c.is_up_to_turn.ensures ∙ c.if-not-is_up_to_turn.true)

pub invariant_of-self : goal.invariant_of-self
invariant_of-self c =
    c.set_time.ensures ∙ ap (set c.self.inside.fronts c.in-Some.turn.stream) c.time_in_front-front.ensures
    ∙ ap (λ times. set times c.in-Some.turn.stream (front_time c.give_room_back.new.queue.items)) c.self.invariant
    ∙ sym (map_set_is c.self.inside.queues.items (λ queue. front_time queue.items) c.in-Some.turn.stream c.give_room_back.new.queue
    (front_time c.give_room_back.new.queue.items) refl)

pub returns-clause-some : goal.returns-clause-some
returns-clause-some c =
    takes_first c.self.inside.queues.items (λ queue. queue.items) c.self.inside.fronts c.args.self.now c.args.bound c.in-Some.turn
    c.index_mut-queue.result.now c.give_room_back.new.queue c.in-Some-pop_front.item c.in-Some.ensures c.self.invariant c.self.view_is
    (sym c.is_up_to_turn.ensures ∙ c.if-not-is_up_to_turn.false)
    (omega (arith, c.in-Some.ensures.1, ap length c.self.invariant, length-map c.self.inside.queues.items (λ queue. front_time queue.items)))
    c.index_mut-queue.ensures.value (c.in-Some-pop_front.ensures.items ∙ ap (λ rest. c.in-Some-pop_front.item ∷ rest) (sym c.give_room_back.ensures))
