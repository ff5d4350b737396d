-- The derived `==` of events tells exactly whether they are equal.
use Rattle.enf_data.proofs.Vocabulary.{◌≡◌, ap, refl, Decides, Decides-eqb, Decides-like, Decides-and, slice_eq-Decides, Event}
use Rattle.enf_data.proofs.ValueEquality.{derived_value_eq-Decides}
use Rattle.enf_data.specs.contracts.events.EventPartialEq.TheImpl as events

pub derived_event_eq-Decides : (a b : Event) → Decides (events.eq-value.it a b) (a ≡ b)
derived_event_eq-Decides a b =
    Decides-like (events.eq-value.it a b) (λ h i. record { name = record { 0 = h.0 i }; args = h.1 i }) (λ e. (ap (λ x. x.name.0) e, ap (λ x. x.args) e))
    (Decides-and _ _ (Decides-eqb a.name.0 b.name.0) (slice_eq-Decides derived_value_eq-Decides a.args b.args _ refl))
