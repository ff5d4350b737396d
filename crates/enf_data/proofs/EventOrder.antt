-- The order of events is total, and ties just those that are equal.
use Rattle.enf_data.proofs.ValueOrder.{row_cmp_exact}
use Rattle.enf_data.proofs.Vocabulary.{◌≡◌, refl, Event, IsAntisymmetric, IsTotalOrder, nat_cmp-IsAntisymmetric, nat_cmp_total, on_total, row_cmp}
use Rattle.enf_data.proofs.Vocabulary.{Ordering, Less, Equal, Greater, event_order}
use Rattle.enf_data.specs.machine.RowOrders.{row_cmp_total}
use Rattle.std.proofs.lemmas.Cmp.{then_total}
use Rattle.std.specs.Ordering.{nat_cmp, ordering_then}

pub event_order_total : IsTotalOrder event_order
event_order_total = then_total (on_total (λ (e : Event). e.name.0) nat_cmp_total) (on_total (λ (e : Event). e.args) row_cmp_total)

pub event_order_exact : IsAntisymmetric event_order
event_order_exact a b e = both (nat_cmp a.name.0 b.name.0) refl e
  where
    both : (r : Ordering) → nat_cmp a.name.0 b.name.0 ≡ r → ordering_then r (row_cmp a.args b.args) ≡ Equal → a ≡ b
    both Less is t = absurd (cc)
    both Equal is t =
        let numbers : a.name.0 ≡ b.name.0 = nat_cmp-IsAntisymmetric a.name.0 b.name.0 is in
        let rows : a.args ≡ b.args = row_cmp_exact a.args b.args t in
        λ i. record { name = record { 0 = numbers i }; args = rows i }
    both Greater is t = absurd (cc)
