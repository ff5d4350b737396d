use Rattle.enf_data.proofs.Vocabulary.{Event, IsBinarySearchResult, IsSearchInRange, event_order, length, subst}
use Rattle.std.proofs.Common.{rules}
use Rattle.std.proofs.lemmas.Fn.{always_returns_same}
use Rattle.enf_data.proofs.EventOrder.{event_order_exact, event_order_total}
use Rattle.enf_data.proofs.RisingLists.{found_nowhere, found_there}
use Rattle.enf_data.proofs.event_sets.place_in_order.Goals as goal

pub returns-in-Ok-clause-some : goal.returns-in-Ok-clause-some
returns-in-Ok-clause-some c =
    let order = λ (y : Event). event_order y c.args.event.now in
    let position = c.binary_search_by.ensures.position order (always_returns_same _ _ _ (λ a r q k. search rules)) in
    found_there event_order_total event_order_exact c.args.events.now c.args.event.now c.in-Ok.place
    (subst (λ r. IsSearchInRange r (length c.args.events.now)) c.in-Ok.is c.binary_search_by.ensures.bound)
    (subst (λ r. IsBinarySearchResult order c.args.events.now r) c.in-Ok.is position)

pub returns-in-Err-clause-none : goal.returns-in-Err-clause-none
returns-in-Err-clause-none c =
    let order = λ (y : Event). event_order y c.args.event.now in
    let position = c.binary_search_by.ensures.position order (always_returns_same _ _ _ (λ a r q k. search rules)) in
    found_nowhere event_order_total event_order_exact c.args.events.now c.args.event.now c.in-Err._place c.requires
    (subst (λ r. IsSearchInRange r (length c.args.events.now)) c.in-Err.is c.binary_search_by.ensures.bound)
    (subst (λ r. IsBinarySearchResult order c.args.events.now r) c.in-Err.is position)
