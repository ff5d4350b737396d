-- A table has a valuation or not, and a difference is in an interval or not.
use Rattle.past_state.proofs.Vocabulary.{◌≡◌, ◌⊎◌, inl, inr, ⊎_elim, ℕ, ◌-◌, ◌≤◌, true, false, List, [], ◌∷◌, Contains, Option, None, Some, refl, sym, subst, arith, Decides, false≢true, cases_lt}
use Rattle.past_state.proofs.Vocabulary.{same_Some, none-some, value_eq, value_eq-Decides, IsIn, IsUpTo, Valuation, value_at, Interval, VarId, Value, here, later, first_or_later, none_in_nil}
use Rattle.past_state.proofs.Vocabulary.{Relation, HasValuation, AgreesWithRow, row_cell, Window, HasRow, WindowRemembers, ValuationSurvives, Survivors}
use Rattle.std.proofs.Common.{Bool}
use Rattle.past_state.specs.declared.survivors.Survivors.TheVariants as told

-- it holds or not
abbrev pub IsDecided : Type 0 → Type 0
IsDecided P = P ⊎ (P → ⊥)

from_Decides : {P : Type 0} (b : Bool) → Decides b P → IsDecided P
from_Decides true d = inl (d.0 refl)
from_Decides false d = inr (λ p. false≢true (d.1 p))

both : {P Q : Type 0} → IsDecided P → IsDecided Q → IsDecided (P × Q)
both p q = ⊎_elim (λ yes. ⊎_elim (λ also. inl (yes, also)) (λ no. inr (λ h. no h.1)) q) (λ no. inr (λ h. no h.0)) p

pub stable : {P : Type 0} → IsDecided P → ((P → ⊥) → ⊥) → P
stable p h = ⊎_elim (λ yes. yes) (λ no. absurd (h no)) p

at_most : (m n : ℕ) → IsDecided (m ≤ n)
at_most m n = ⊎_elim (λ less. inr (λ le. omega (arith, less))) (λ le. inl le) (cases_lt n m)

up_to : (high : Option ℕ) (d : ℕ) → IsDecided (IsUpTo high d)
up_to None d = inl tt
up_to (Some high) d = at_most d high

pub in_interval : (interval : Interval) (d : ℕ) → IsDecided (IsIn interval d)
in_interval interval d = both (at_most interval.low d) (up_to interval.high d)

same_value : (a b : Option Value) → IsDecided (a ≡ b)
same_value None None = inl refl
same_value None (Some b) = inr (λ e. none-some b e)
same_value (Some a) None = inr (λ e. none-some a (sym e))
same_value (Some a) (Some b) = ⊎_elim (λ e. inl (λ i. Some (e i))) (λ no. inr (λ e. no (same_Some a b e))) (from_Decides (value_eq a b) (value_eq-Decides a b))

-- on each of the columns xs
agrees : (v : Valuation) (columns : List VarId) (row : List Value) (xs : List VarId)
    → IsDecided ((x : VarId) → Contains xs x → value_at v x ≡ row_cell columns row x)
agrees v columns row [] = inl (λ x there. absurd (none_in_nil x there))
agrees v columns row (y ∷ xs) =
    ⊎_elim
    (λ first. ⊎_elim
    (λ rest. inl (λ x there. ⊎_elim (λ same. subst (λ z. value_at v z ≡ row_cell columns row z) same first) (rest x) (first_or_later x y xs there)))
    (λ no. inr (λ h. no (λ x there. h x (later x y xs there))))
    (agrees v columns row xs))
    (λ no. inr (λ h. no (h y (here y xs))))
    (same_value (value_at v y) (row_cell columns row y))

among : (v : Valuation) (columns : List VarId) (rows : List (List Value))
    → IsDecided ((row : List Value) × Contains rows row × AgreesWithRow v columns row)
among v columns [] = inr (λ h. none_in_nil h.0 h.1)
among v columns (row ∷ rows) =
    ⊎_elim (λ yes. inl (row, here row rows, yes))
    (λ no. ⊎_elim (λ found. inl (found.0, later found.0 row rows found.1, found.2))
    (λ none. inr (λ h. ⊎_elim (λ same. no (subst (AgreesWithRow v columns) (sym same) h.2)) (λ behind. none (h.0, behind, h.2)) (first_or_later h.0 row rows h.1)))
    (among v columns rows))
    (agrees v columns row columns)

pub in_table : (t : Relation) (v : Valuation) → IsDecided (HasValuation t v)
in_table t v = among v t.columns t.rows

-- what cannot fail to survive survives
pub survives_stable : (survivors : Survivors) (v : Valuation) → ((ValuationSurvives survivors v → ⊥) → ⊥) → ValuationSurvives survivors v
survives_stable told.All v h = tt
survives_stable (told.Only rows) v h = stable (in_table rows v) h
survives_stable (told.AllBut rows) v h = λ there. h (λ absent. absent there)

-- one of the times counts
some_time : (Counts : ℕ → Type 0) → ((t : ℕ) → IsDecided (Counts t)) → (times : List ℕ) → IsDecided ((t : ℕ) × Contains times t × Counts t)
some_time Counts counts [] = inr (λ h. none_in_nil h.0 h.1)
some_time Counts counts (time ∷ times) =
    ⊎_elim (λ yes. inl (time, here time times, yes))
    (λ no. ⊎_elim (λ found. inl (found.0, later found.0 time times found.1, found.2))
    (λ none. inr (λ h. ⊎_elim (λ same. no (subst Counts (sym same) h.2)) (λ behind. none (h.0, behind, h.2)) (first_or_later h.0 time times h.1)))
    (some_time Counts counts times))
    (counts time)

-- a row with the valuation's values has one
some_row : (Counts : ℕ → Type 0) → ((t : ℕ) → IsDecided (Counts t)) → (v : Valuation) (columns : List VarId) (kept : List (List Value × List ℕ))
    → IsDecided ((e : List Value × List ℕ) × Contains kept e × ((t : ℕ) × Contains e.1 t × Counts t) × AgreesWithRow v columns e.0)
some_row Counts counts v columns [] = inr (λ h. none_in_nil h.0 h.1)
some_row Counts counts v columns (e ∷ kept) =
    ⊎_elim (λ yes. inl (e, here e kept, yes.0, yes.1))
    (λ no. ⊎_elim (λ found. inl (found.0, later found.0 e kept found.1, found.2, found.3))
    (λ none. inr (λ h. ⊎_elim (λ same. no (subst (λ f. ((t : ℕ) × Contains f.1 t × Counts t) × AgreesWithRow v columns f.0) (sym same) (h.2, h.3)))
    (λ behind. none (h.0, behind, h.2, h.3)) (first_or_later h.0 e kept h.1)))
    (some_row Counts counts v columns kept))
    (both (some_time Counts counts e.1) (agrees v columns e.0 columns))

same_time : (time t : ℕ) → IsDecided (t ≡ time)
same_time time t = ⊎_elim (λ below. ⊎_elim (λ above. inl (omega (arith, below, above))) (λ no. inr (λ e. no (omega (arith, e)))) (at_most time t))
    (λ no. inr (λ e. no (omega (arith, e)))) (at_most t time)

pub in_window : (window : Window) (v : Valuation) (time : ℕ) → IsDecided (HasRow window v time)
in_window window v time =
    ⊎_elim (λ found. inl (found.0.0, found.0.1, found.1, subst (Contains found.0.1) found.2.2 found.2.1, found.3))
    (λ none. inr (λ h. none ((h.0, h.1), h.2, (time, h.3, refl), h.4)))
    (some_row (λ t. t ≡ time) (same_time time) v window.columns window.kept)

pub is_remembered : (window : Window) (time : ℕ) (v : Valuation) → IsDecided (WindowRemembers window time v)
is_remembered window time v =
    ⊎_elim (λ found. inl (found.2.0, found.2.2, (found.0.0, found.0.1, found.1, found.2.1, found.3)))
    (λ none. inr (λ h. none ((h.2.0, h.2.1), h.2.2, (h.0, h.2.3, h.1), h.2.4)))
    (some_row (λ t. IsIn window.interval (time - t)) (λ t. in_interval window.interval (time - t)) v window.columns window.kept)
