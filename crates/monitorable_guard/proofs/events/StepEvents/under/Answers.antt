use Rattle.monitorable_guard.proofs.Vocabulary.{◌≡◌, ap, sym, subst, ◌∙◌, Contains, IsSortedByKey, key_of, event_cmp, shown_events, length, map, take, Some, value_of_term, length-take-le}
use Rattle.std.proofs.lemmas.List.{take-map}
use Rattle.monitorable_guard.specs.machine.EventOrder.{leading_known}
use Rattle.monitorable_guard.proofs.EventLemmas.{begins}
use Rattle.monitorable_guard.proofs.events.StepEvents.under.Goals as goal

pub beginning_with-requires : goal.beginning_with-requires
beginning_with-requires g c = subst (IsSortedByKey key_of event_cmp) (sym c.order_of.ensures) c.self.invariant.1.order

pub returns : goal.returns
returns g c =
    let f = value_of_term (g.V.Lookup.valuation c.args.v.now) in
    let terms = c.args.terms.now in
    let known = map f terms in
    let count = c.leading-count.result in
    let is : count ≡ leading_known known = c.leading-count.ensures.count in
    let long : length (take count terms) ≡ leading_known known = length-take-le count terms c.leading-count.ensures.within ∙ is in
    let front : map f (take count terms) ≡ take (leading_known known) known = ap (λ n. map f (take n terms)) is ∙ sym (take-map f (leading_known known) terms) in
    λ event. (
      λ there.
          let found = (c.beginning_with.ensures event).0 there in (
            subst (λ l. Contains l event) c.self.view_is ((c.self.invariant.1.same event).0 (subst (λ l. Contains (shown_events l) event) c.order_of.ensures found.0)),
            found.1,
            (begins known event.args).1 (sym (ap (λ n. map Some (take n event.args)) long) ∙ found.2 ∙ front),
          ),
      λ all. (c.beginning_with.ensures event).1 (
        subst (λ l. Contains (shown_events l) event) (sym c.order_of.ensures)
            ((c.self.invariant.1.same event).1 (subst (λ l. Contains l event) (sym c.self.view_is) all.0)),
        all.1,
        ap (λ n. map Some (take n event.args)) long ∙ (begins known event.args).0 all.2 ∙ sym front,
      ),
    )
