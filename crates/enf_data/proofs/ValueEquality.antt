-- Equality of values, rows and events can be decided.
use Rattle.enf_data.proofs.Lists.{list_any-Decides}
use Rattle.enf_data.proofs.Vocabulary.{Event, Value, Num, Text, value_eq-Decides, row_eq, event_eq, has_event, refl, ap, sym, true≢false, inl, inr, ⊎_elim, false≢true, Decides-eqb, Decides-like}
use Rattle.enf_data.proofs.Vocabulary.{Decides-and, Decides-int_eq, same_Some, none-some, slice_eq-Decides, bytes_eq-Decides, Decides, ◌⊎◌, Option, None}
use Rattle.std.specs.Prelude.{◌≡◌, List, Contains, Bool, true, false, Some}
use Rattle.enf_data.specs.contracts.values.ValuePartialEq.TheImpl as values
use Rattle.enf_data.specs.contracts.rows.RowPartialEq.TheImpl as rows

pub row_eq-Decides : (a b : List Value) → Decides (row_eq a b) (a ≡ b)
row_eq-Decides a b = slice_eq-Decides value_eq-Decides a b (row_eq a b) refl

pub event_eq-Decides : (a b : Event) → Decides (event_eq a b) (a ≡ b)
event_eq-Decides a b =
    Decides-like (event_eq a b)
    (λ h i. record { name = record { 0 = h.0 i }; args = h.1 i }) (λ e. (ap (λ x. x.name.0) e, ap (λ x. x.args) e))
    (Decides-and _ _ (Decides-eqb a.name.0 b.name.0) (row_eq-Decides a.args b.args))

pub has_event-Decides : (events : List Event) (event : Event)
    → Decides (has_event events event) (Contains events event)
has_event-Decides events event = list_any-Decides event_eq event_eq-Decides events event

-- an event that cannot be missing from a list is there
pub Contains-stable : (events : List Event) (event : Event) → ((Contains events event → ⊥) → ⊥)
    → Contains events event
Contains-stable events event h = by (has_event events event) (has_event-Decides events event)
  where
    by : (b : Bool) → Decides b (Contains events event) → Contains events event
    by true d = d.0 refl
    by false d = absurd (h (λ there. true≢false (sym (d.1 there))))

pub derived_value_eq-Decides : (a b : Value) → Decides (values.eq-value.it a b) (a ≡ b)
derived_value_eq-Decides (Num x) (Num y) = value_eq-Decides (Num x) (Num y)
derived_value_eq-Decides (Num x) (Text t) = value_eq-Decides (Num x) (Text t)
derived_value_eq-Decides (Text s) (Num y) = value_eq-Decides (Text s) (Num y)
derived_value_eq-Decides (Text s) (Text t) = value_eq-Decides (Text s) (Text t)

pub derived_row_eq-Decides : (a b : List Value) → Decides (rows.eq-value.it a b) (a ≡ b)
derived_row_eq-Decides a b = slice_eq-Decides derived_value_eq-Decides a b _ refl

either_by : (P : Type 0) (b : Bool) → Decides b P → P ⊎ (P → ⊥)
either_by P true d = inl (d.0 refl)
either_by P false d = inr (λ p. false≢true (d.1 p))

pub same_value_or_not : (a b : Value) → (a ≡ b) ⊎ (a ≡ b → ⊥)
same_value_or_not (Num x) (Num y) = ⊎_elim (λ e. inl (ap Num e)) (λ n. inr
    (λ (e : Num x ≡ Num y). n (cc))) (either_by (x ≡ y) _ (Decides-int_eq x y))
same_value_or_not (Num x) (Text t) = inr (λ (e : Num x ≡ Text t). absurd (cc))
same_value_or_not (Text s) (Num y) = inr (λ (e : Text s ≡ Num y). absurd (cc))
same_value_or_not (Text s) (Text t) = ⊎_elim (λ e. inl (ap Text e)) (λ n. inr
    (λ (e : Text s ≡ Text t). n (cc))) (either_by (s ≡ t) _ (bytes_eq-Decides s t))

pub same_at_or_not : (a b : Option Value) → (a ≡ b) ⊎ (a ≡ b → ⊥)
same_at_or_not None None = inl refl
same_at_or_not None (Some b) = inr (λ e. none-some b e)
same_at_or_not (Some a) None = inr (λ e. none-some a (sym e))
same_at_or_not (Some a) (Some b) = ⊎_elim (λ e. inl (ap Some e)) (λ n. inr
    (λ e. n (same_Some a b e))) (same_value_or_not a b)
