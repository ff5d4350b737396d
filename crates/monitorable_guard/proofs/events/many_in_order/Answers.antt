use Rattle.monitorable_guard.proofs.Vocabulary.{rules, ◌∙◌, is_lt, always_returns_same, take_all, ranks_by, key_of, event_cmp}
use Rattle.monitorable_guard.proofs.EventLemmas.{event_cmp_total, rising_by_name, sorted_by_name}
use Rattle.monitorable_guard.proofs.events.many_in_order.Goals as goal

pub returns-then-rise : goal.returns-then-rise
returns-then-rise c = rising_by_name c.args.events.now c.loop-event.order.items
    (c.loop-event.invariant ∙ take_all c.loop-event.event-index c.args.events.now c.loop-event-test.false)
    (c.requires c.if-rise.true)

pub returns : goal.returns
returns c = sorted_by_name c.args.events.now c.loop-event.order.items _
    (c.loop-event.invariant ∙ take_all c.loop-event.event-index c.args.events.now c.loop-event-test.false)
    c.sort_unstable_by.ensures.permutation
    (c.sort_unstable_by.ensures.sorted (λ x y. is_lt (event_cmp (key_of x) (key_of y))) (ranks_by event_cmp_total key_of) (always_returns_same _ _ _ (λ a r q k. search rules)))
