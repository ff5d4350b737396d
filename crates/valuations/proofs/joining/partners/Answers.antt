use Rattle.valuations.proofs.Vocabulary.{rules, ◌≡◌, true, false, ap, sym, ◌∙◌, subst, Contains, length, take, drop, ◌-◌, IsPartitionPoint, IsPartitionedBy, is_lt, is_le, take_rest}
use Rattle.valuations.proofs.Vocabulary.{IsPartitionPoint-from_clause, row_key, key_cmp, shown_rows, below_first, up_to_last, tied_between, Contains-map, Contains-from_map}
use Rattle.valuations.proofs.KeyLaws.{key_cmp_total, key_cmp_exact}
use Rattle.valuations.proofs.joining.partners.Goals as goal

pub returns : goal.returns
returns c =
    let order = c.args.order.now in
    let right = c.args.right.now in
    let wanted = row_key c.args.row.now c.args.left.now in
    let from = c.partition_point-from.result in
    let count = c.partition_point-count.result in
    let behind : take (length order - from) (drop from order) ≡ drop from order = take_rest order from in
    let first : IsPartitionPoint (λ y. is_lt (key_cmp (row_key y.now right) wanted) ≡ true) (λ y. is_lt (key_cmp (row_key y.now right) wanted) ≡ false) order from =
    IsPartitionPoint-from_clause (λ y. is_lt (key_cmp (row_key y.now right) wanted)) order from c.partition_point-from.ensures.partitioned
    (below_first key_cmp_total key_cmp_exact (λ y. row_key y.now right) order wanted c.requires.order) (λ a r q k. search rules) in
    let parted : IsPartitionedBy (λ y. is_le (key_cmp (row_key y.now right) wanted)) (take (length order - from) (drop from order)) =
    subst (IsPartitionedBy (λ y. is_le (key_cmp (row_key y.now right) wanted))) (sym behind) (up_to_last key_cmp_total key_cmp_exact (λ y. row_key y.now right) order wanted c.requires.order from) in
    let last : IsPartitionPoint (λ y. is_le (key_cmp (row_key y.now right) wanted) ≡ true) (λ y. is_le (key_cmp (row_key y.now right) wanted) ≡ false)
    (take (length order - from) (drop from order)) count =
    IsPartitionPoint-from_clause (λ y. is_le (key_cmp (row_key y.now right) wanted)) (take (length order - from) (drop from order)) count c.partition_point-count.ensures.partitioned parted
    (λ a r q k. search rules) in
    let tied = tied_between key_cmp_total key_cmp_exact (λ y. row_key y.now right) order wanted c.requires.order from count first
    (subst (λ l. IsPartitionPoint (λ y. is_le (key_cmp (row_key y.now right) wanted) ≡ true) (λ y. is_le (key_cmp (row_key y.now right) wanted) ≡ false) l count) behind last) in
    let same : take count (take (length order - from) (drop from order)) ≡ take count (drop from order) = ap (take count) behind in
    λ other. (
      λ there.
          let found = Contains-from_map (λ y. y.now) (take count (drop from order)) other (subst (λ l. Contains (shown_rows l) other) same there) in
          let both = (tied found.0).0 found.1 in
          (subst (Contains (shown_rows order)) found.2 (Contains-map (λ y. y.now) order found.0 both.0), subst (λ o. row_key o right ≡ wanted) found.2 both.1),
      λ both.
          let found = Contains-from_map (λ y. y.now) order other both.0 in
          subst (λ l. Contains (shown_rows l) other) (sym same) (subst (Contains (shown_rows (take count (drop from order)))) found.2
          (Contains-map (λ y. y.now) (take count (drop from order)) found.0 ((tied found.0).1 (found.1, ap (λ o. row_key o right) found.2 ∙ both.1)))),
    )
