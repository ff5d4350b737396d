use Rattle.enf_data.proofs.Vocabulary.{event_order, is_lt}
use Rattle.std.proofs.Common.{rules}
use Rattle.std.proofs.lemmas.Fn.{always_returns_same}
use Rattle.enf_data.proofs.EventOrder.{event_order_total}
use Rattle.enf_data.proofs.RisingLists.{rising_distinct, rising_from_neighbours}
use Rattle.enf_data.proofs.event_sets.do_rise.Goals as goal

pub returns-clause-order : goal.returns-clause-order
returns-clause-order c = rising_from_neighbours event_order_total c.args.events.now c.is_sorted_by.result
    (c.is_sorted_by.ensures.cases (λ x y. is_lt (event_order x y)) (always_returns_same _ _ _ (λ a r q k. search rules)))

pub returns-clause-distinct : goal.returns-clause-distinct
returns-clause-distinct c = λ told. rising_distinct event_order_total c.args.events.now
    (rising_from_neighbours event_order_total c.args.events.now c.is_sorted_by.result
    (c.is_sorted_by.ensures.cases (λ x y. is_lt (event_order x y)) (always_returns_same _ _ _ (λ a r q k. search rules))) told)
