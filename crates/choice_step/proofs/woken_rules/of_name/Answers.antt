use Rattle.choice_step.proofs.Vocabulary.{rules, ◌≡◌, ap, sym, subst, true, false, Contains, length, take, drop, ◌-◌, nat_cmp_total, nat_cmp-IsAntisymmetric, IsPartitionPoint, IsPartitionedBy, is_lt}
use Rattle.choice_step.proofs.Vocabulary.{is_le, nat_cmp, take_rest, IsPartitionPoint-from_clause, below_first, up_to_last, tied_between, woken_number}
use Rattle.choice_step.proofs.woken_rules.of_name.Goals as goal

pub returns : goal.returns
returns c =
    let woken = c.args.woken.now in
    let wanted = c.args.name.0 in
    let from = c.partition_point-from.result in
    let count = c.partition_point-count.result in
    let behind : take (length woken - from) (drop from woken) ≡ drop from woken = take_rest woken from in
    let first : IsPartitionPoint (λ y. is_lt (nat_cmp (woken_number y) wanted) ≡ true) (λ y. is_lt (nat_cmp (woken_number y) wanted) ≡ false) woken from =
    IsPartitionPoint-from_clause (λ y. is_lt (nat_cmp (woken_number y) wanted)) woken from
    c.partition_point-from.ensures.partitioned (below_first nat_cmp_total nat_cmp-IsAntisymmetric woken_number
    woken wanted c.requires) (λ a r q k. search rules) in
    let parted : IsPartitionedBy (λ y. is_le (nat_cmp (woken_number y) wanted)) (take (length woken - from) (drop from woken)) =
    subst (IsPartitionedBy (λ y. is_le (nat_cmp (woken_number y) wanted))) (sym behind) (up_to_last nat_cmp_total nat_cmp-IsAntisymmetric woken_number woken wanted c.requires from) in
    let last : IsPartitionPoint (λ y. is_le (nat_cmp (woken_number y) wanted) ≡ true) (λ y. is_le (nat_cmp (woken_number y) wanted) ≡ false) (take (length woken - from) (drop from woken)) count =
    IsPartitionPoint-from_clause (λ y. is_le (nat_cmp (woken_number y) wanted))
    (take (length woken - from) (drop from woken)) count c.partition_point-count.ensures.partitioned parted
    (λ a r q k. search rules) in
    let tied = tied_between nat_cmp_total nat_cmp-IsAntisymmetric woken_number woken wanted c.requires from count
    first (subst (λ l. IsPartitionPoint (λ y. is_le (nat_cmp (woken_number y) wanted) ≡ true)
    (λ y. is_le (nat_cmp (woken_number y) wanted) ≡ false) l count) behind last) in
    let same : take count (take (length woken - from) (drop from woken)) ≡ take count (drop from woken) = ap (take count) behind in
    λ entry there named. subst (λ l. Contains l entry) (sym same) ((tied entry).1 (there, ap (λ n. n.0) named))
