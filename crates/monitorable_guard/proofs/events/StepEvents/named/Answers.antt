use Rattle.monitorable_guard.proofs.Vocabulary.{sym, subst, Contains, IsSortedByKey, nat_cmp, name_of, shown_events}
use Rattle.monitorable_guard.proofs.EventLemmas.{by_names}
use Rattle.monitorable_guard.proofs.events.StepEvents.named.Goals as goal

pub returns : goal.returns
returns c = λ event. (
  λ there.
      let found = (c.of_name.ensures event).0 there in
      (subst (λ l. Contains l event) c.self.view_is ((c.self.invariant.1.same event).0 (subst (λ l. Contains (shown_events l) event) c.order_of.ensures found.0)), found.1),
  λ both. (c.of_name.ensures event).1 (
    subst (λ l. Contains (shown_events l) event) (sym c.order_of.ensures)
        ((c.self.invariant.1.same event).1 (subst (λ l. Contains l event) (sym c.self.view_is) both.0)),
    both.1,
  ),
)

pub of_name-requires : goal.of_name-requires
of_name-requires c = subst (IsSortedByKey name_of nat_cmp) (sym c.order_of.ensures) (by_names _ c.self.invariant.1.order)
