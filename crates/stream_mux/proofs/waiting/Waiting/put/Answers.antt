use Rattle.enf_data.proofs.ListFacts.{on_err_from}
use Rattle.std.proofs.Common.{Some, ap, arith, length, not, set, sym, ◌∙◌}
use Rattle.std.proofs.lemmas.List.{length-map}
use Rattle.std.specs.Option.{is_some}
use Rattle.stream_mux.specs.machine.MuxQueues.{front_time, put_behind}
use Rattle.stream_mux.proofs.QueueEdits.{front_of_first, front_stays, items_put, map_set_is, map_set_same}
use Rattle.stream_mux.proofs.waiting.Waiting.put.Goals as goal

pub invariant_of-self : goal.invariant_of-self
invariant_of-self c =
    c.self.invariant
    ∙ sym (map_set_same c.self.inside.queues.items (λ queue. front_time queue.items) c.args.stream c.index_mut-queue.result.now
    c.push_back.new.self (omega (arith, c.requires, ap length c.self.view_is, length-map c.self.inside.queues.items (λ queue. queue.items)))
    c.index_mut-queue.ensures.value (ap front_time c.in_err-push_back.ensures.items))

pub returns-in_err-push_back-clause-err : goal.returns-in_err-push_back-clause-err
returns-in_err-push_back-clause-err c =
    on_err_from c.from_residual.result
    (map_set_same c.self.inside.queues.items (λ queue. queue.items) c.args.stream c.index_mut-queue.result.now
    c.push_back.new.self (omega (arith, c.requires, ap length c.self.view_is, length-map c.self.inside.queues.items (λ queue. queue.items)))
    c.index_mut-queue.ensures.value c.in_err-push_back.ensures.items ∙ c.self.view_is)

pub invariant_of-self-then-is_none : goal.invariant_of-self-then-is_none
invariant_of-self-then-is_none c =
    c.set_time.ensures ∙ ap (λ times. set times c.args.stream (Some c.time_of-time.result)) c.self.invariant
    ∙ sym (map_set_is c.self.inside.queues.items (λ queue. front_time queue.items) c.args.stream c.push_back.new.self (Some c.time_of-time.result)
    (front_of_first c.index_mut-queue.result.now.items c.push_back.new.self.items c.args.item
    (ap not (ap is_some (sym c.time_in_front-front.ensures) ∙ c.is_none.ensures) ∙ ap (λ b. not (not b)) c.if-is_none.true) c.in_ok-push_back.ensures.items
    ∙ ap Some (sym c.time_of-time.ensures)))

pub invariant_of-self-else-is_none : goal.invariant_of-self-else-is_none
invariant_of-self-else-is_none c =
    c.self.invariant
    ∙ sym (map_set_same c.self.inside.queues.items (λ queue. front_time queue.items) c.args.stream c.index_mut-queue.result.now
    c.push_back.new.self (omega (arith, c.requires, ap length c.self.view_is, length-map c.self.inside.queues.items (λ queue. queue.items)))
    c.index_mut-queue.ensures.value
    (front_stays c.index_mut-queue.result.now.items c.push_back.new.self.items c.args.item
    (ap not (ap is_some (sym c.time_in_front-front.ensures) ∙ c.is_none.ensures) ∙ ap (λ b. not (not b)) c.if-is_none.false) c.in_ok-push_back.ensures.items))

pub returns-then-is_none-clause-ok : goal.returns-then-is_none-clause-ok
returns-then-is_none-clause-ok c =
    items_put c.self.inside.queues.items (λ queue. queue.items) c.args.stream c.index_mut-queue.result.now
    c.push_back.new.self c.args.item
    (omega (arith, c.requires, ap length c.self.view_is, length-map c.self.inside.queues.items (λ queue. queue.items)))
    c.index_mut-queue.ensures.value c.in_ok-push_back.ensures.items
    ∙ ap (put_behind c.args.stream c.args.item) c.self.view_is

pub returns-else-is_none-clause-ok : goal.returns-else-is_none-clause-ok
returns-else-is_none-clause-ok c =
    items_put c.self.inside.queues.items (λ queue. queue.items) c.args.stream c.index_mut-queue.result.now
    c.push_back.new.self c.args.item
    (omega (arith, c.requires, ap length c.self.view_is, length-map c.self.inside.queues.items (λ queue. queue.items)))
    c.index_mut-queue.ensures.value c.in_ok-push_back.ensures.items
    ∙ ap (put_behind c.args.stream c.args.item) c.self.view_is
