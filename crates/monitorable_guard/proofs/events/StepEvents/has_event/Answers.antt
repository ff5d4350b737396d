use Rattle.monitorable_guard.proofs.Vocabulary.{rules, length, map, subst, always_returns_same, IsSearchInRange, IsBinarySearchResult, value_of_term, IsByName, listed}
use Rattle.monitorable_guard.proofs.EventLemmas.{search_key, search_cmp, found_event}
use Rattle.monitorable_guard.proofs.events.StepEvents.has_event.Goals as goal

pub returns : goal.returns
returns g c =
    let v = g.V.Lookup.valuation c.args.v.now in
    let facts = c.binary_search_by.ensures in
    let position = facts.position (λ e. search_cmp (search_key e) (c.args.name.0, map (value_of_term v) c.args.terms.now)) (always_returns_same _ _ _ (λ a r q k. search rules)) in
    let order = listed c.self.inside.by_name in
    let told = found_event c.args.self.now order v c.args.name c.args.terms.now (subst (λ l. IsByName l order) c.self.view_is c.self.invariant.1) c.binary_search_by.result
    (subst (λ l. IsSearchInRange c.binary_search_by.result (length l)) c.order_of.ensures facts.bound)
    (subst (λ l. IsBinarySearchResult (λ e. search_cmp (search_key e) (c.args.name.0, map (value_of_term v) c.args.terms.now)) l c.binary_search_by.result) c.order_of.ensures position) in
    rw c.is_ok.ensures.value told
