use Rattle.monitorable_guard.proofs.Vocabulary.{rules, ap, sym, ◌∙◌, subst, Contains, map, Some, length, take, drop, ◌-◌, List, Option, IsPartitionedBy, is_lt, is_le, take_rest}
use Rattle.monitorable_guard.proofs.Vocabulary.{IsPartitionPoint-from_clause, same_name, below_first, up_to_last, Contains-map, Contains-from_map, shown_events, Value, value_of_term}
use Rattle.monitorable_guard.proofs.EventLemmas.{search_cmp, search_cmp_total, search_cmp_exact, beginning_key, by_beginning, tied_events}
use Rattle.std.proofs.Common.{ℕ}
use Rattle.monitorable_guard.proofs.events.beginning_with.Goals as goal

pub returns : goal.returns
returns g c =
    let order = c.args.order.now in
    let terms = c.args.terms.now in
    let key = beginning_key (length terms) in
    let wanted : ℕ × List (Option Value) = (c.args.name.0, map (value_of_term (g.V.Lookup.valuation c.args.v.now)) terms) in
    let sorted = by_beginning (length terms) order c.requires in
    let from = c.partition_point-from.result in
    let count = c.partition_point-count.result in
    let rest = take (length order - from) (drop from order) in
    let parted : IsPartitionedBy (λ y. is_le (search_cmp (key y) wanted)) rest =
    subst (IsPartitionedBy (λ y. is_le (search_cmp (key y) wanted))) (sym (take_rest order from)) (up_to_last search_cmp_total search_cmp_exact key order wanted sorted from) in
    let tied = tied_events search_cmp_total search_cmp_exact key order wanted sorted from count
    (IsPartitionPoint-from_clause (λ y. is_lt (search_cmp (key y) wanted)) order from c.partition_point-from.ensures.partitioned
    (below_first search_cmp_total search_cmp_exact key order wanted sorted) (λ a r q k. search rules))
    (IsPartitionPoint-from_clause (λ y. is_le (search_cmp (key y) wanted)) rest count c.partition_point-count.ensures.partitioned parted (λ a r q k. search rules)) in
    λ event. (
      λ there.
          let found = (tied event).0 there in (
            subst (Contains (shown_events order)) found.3 (Contains-map (λ y. y.now) order found.0 found.1),
            same_name _ _ (sym (ap (λ e. e.name.0) found.3) ∙ ap (λ k. k.0) found.2),
            sym (ap (λ e. map Some (take (length terms) e.args)) found.3) ∙ ap (λ k. k.1) found.2,
          ),
      λ both.
          let found = Contains-from_map (λ y. y.now) order event both.0 in
          (tied event).1 (
            found.0,
            found.1,
            λ i. ((ap (λ e. e.name.0) found.2 ∙ ap (λ n. n.0) both.1) i, (ap (λ e. map Some (take (length terms) e.args)) found.2 ∙ both.2) i),
            found.2,
          ),
    )
