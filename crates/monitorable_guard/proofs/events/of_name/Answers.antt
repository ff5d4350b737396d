use Rattle.monitorable_guard.proofs.Vocabulary.{rules, ap, sym, ◌∙◌, subst, Contains, length, take, drop, ◌-◌, nat_cmp_total, nat_cmp-IsAntisymmetric, IsPartitionedBy, is_lt, is_le, nat_cmp}
use Rattle.monitorable_guard.proofs.Vocabulary.{take_rest, IsPartitionPoint-from_clause, same_name, below_first, up_to_last, Contains-map, Contains-from_map, name_of, shown_events}
use Rattle.monitorable_guard.proofs.EventLemmas.{tied_events}
use Rattle.monitorable_guard.proofs.events.of_name.Goals as goal

pub returns : goal.returns
returns c =
    let order = c.args.order.now in
    let wanted = c.args.name.0 in
    let from = c.partition_point-from.result in
    let count = c.partition_point-count.result in
    let rest = take (length order - from) (drop from order) in
    let parted : IsPartitionedBy (λ y. is_le (nat_cmp (name_of y) wanted)) rest =
    subst (IsPartitionedBy (λ y. is_le (nat_cmp (name_of y) wanted))) (sym (take_rest order from)) (up_to_last nat_cmp_total nat_cmp-IsAntisymmetric name_of order wanted c.requires from) in
    let tied = tied_events nat_cmp_total nat_cmp-IsAntisymmetric name_of order wanted c.requires from count
    (IsPartitionPoint-from_clause (λ y. is_lt (nat_cmp (name_of y) wanted)) order from c.partition_point-from.ensures.partitioned
    (below_first nat_cmp_total nat_cmp-IsAntisymmetric name_of order wanted c.requires) (λ a r q k. search rules))
    (IsPartitionPoint-from_clause (λ y. is_le (nat_cmp (name_of y) wanted)) rest count c.partition_point-count.ensures.partitioned parted (λ a r q k. search rules)) in
    λ event. (
      λ there.
          let found = (tied event).0 there in
          (subst (Contains (shown_events order)) found.3 (Contains-map (λ y. y.now) order found.0 found.1), same_name _ _ (sym (ap (λ e. e.name.0) found.3) ∙ found.2)),
      λ both.
          let found = Contains-from_map (λ y. y.now) order event both.0 in
          (tied event).1 (found.0, found.1, ap (λ e. e.name.0) found.2 ∙ ap (λ n. n.0) both.1, found.2),
    )
