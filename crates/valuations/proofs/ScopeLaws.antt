-- Laws of valuations that are filled from rows, and of being in a table.
use Rattle.valuations.proofs.Vocabulary.{here, first_or_later, none_in_nil, later, some_or_not, same_at_or_not, VarId, Value, HasNoRepeats, Valuation, value_at, with_values, variable_cmp, inl, inr}
use Rattle.valuations.proofs.Vocabulary.{⊎_elim, subst, refl, sym, ap, ◌∙◌, arith, none-some, with_new, filled_from_row, with_value, with_found, valuation_part, AgreesWithRow, row_cell, Relation}
use Rattle.valuations.proofs.Vocabulary.{HasValuation}
use Rattle.std.specs.Prelude.{◌≡◌, ◌⊎◌, [], ◌∷◌, Contains, List, Option, None, Some}
use Rattle.valuations.proofs.ColumnLaws.{among_or_not}
use Rattle.valuations.proofs.RowLaws.{value_at-other, value_at-bound, cell_here, cell_later}
use Rattle.std.specs.FinMap as finite

pub same_or_other : (x y : VarId) → (x ≡ y) ⊎ (x ≡ y → ⊥)
same_or_other x y = ⊎_elim
    (λ there. inl (⊎_elim (λ same. same) (λ behind. absurd (none_in_nil y behind)) (first_or_later y x [] there)))
    (λ absent. inr (λ same. absent (subst (Contains (x ∷ [])) same (here x []))))
    (among_or_not (x ∷ []) y)

-- ---- a valuation is in a table or not

each_or_not : (P : VarId → Type 0) (columns : List VarId) → ((x : VarId) → P x ⊎ (P x → ⊥)) → ((x : VarId)
    → Contains columns x → P x) ⊎ (((x : VarId) → Contains columns x → P x) → ⊥)
each_or_not P [] either = inl (λ x there. absurd (none_in_nil x there))
each_or_not P (y ∷ columns) either = ⊎_elim
    (λ first. ⊎_elim
    (λ rest. inl (λ x there. ⊎_elim (λ same. subst P same first)
    (λ behind. rest x behind) (first_or_later x y columns there)))
    (λ n. inr (λ all. n (λ x there. all x (later x y columns there))))
    (each_or_not P columns either))
    (λ n. inr (λ all. n (all y (here y columns))))
    (either y)

agrees_or_not : (v : Valuation) (columns : List VarId) (row : List Value)
    → AgreesWithRow v columns row ⊎ (AgreesWithRow v columns row → ⊥)
agrees_or_not v columns row = each_or_not (λ x. value_at v x ≡ row_cell columns row x) columns
    (λ x. same_at_or_not (value_at v x) (row_cell columns row x))

pub has_or_not : (t : Relation) (v : Valuation) → HasValuation t v ⊎ (HasValuation t v → ⊥)
has_or_not t v = some_or_not (AgreesWithRow v t.columns) t.rows (agrees_or_not v t.columns)

-- ---- what a filled valuation has

with_new-keeps : (v : Valuation) (x y : VarId) (value known : Value) → value_at v y ≡ Some known
    → value_at (with_new (value_at v x) v x value) y ≡ Some known
with_new-keeps v x y value known at = by (value_at v x) refl
  where
    by : (o : Option Value) → value_at v x ≡ o → value_at (with_new o v x value) y ≡ Some known
    by None absent =
        value_at-other v x y value (λ same. none-some known (sym absent ∙ ap (value_at v) same ∙ at)) ∙ at
    by (Some k) there = at

with_new-other : (v : Valuation) (x y : VarId) (value : Value) → (x ≡ y → ⊥)
    → value_at (with_new (value_at v x) v x value) y ≡ value_at v y
with_new-other v x y value apart = by (value_at v x)
  where
    by : (o : Option Value) → value_at (with_new o v x value) y ≡ value_at v y
    by None = value_at-other v x y value apart
    by (Some k) = refl

with_new-there : (v : Valuation) (x y : VarId) (value : Value) → x ≡ y → value_at v y ≡ None
    → value_at (with_new (value_at v x) v x value) y ≡ Some value
with_new-there v x y value same absent = by (value_at v x) (ap (value_at v) same ∙ absent)
  where
    by : (o : Option Value) → o ≡ None → value_at (with_new o v x value) y ≡ Some value
    by None e = value_at-bound v x y value same
    by (Some k) e = absurd (none-some k (sym e))

pub filled_keeps : (v : Valuation) (columns : List VarId) (row : List Value) (y : VarId) (known : Value)
    → value_at v y ≡ Some known → value_at (filled_from_row v columns row) y ≡ Some known
filled_keeps v [] row y known at = at
filled_keeps v (x ∷ columns) [] y known at = at
filled_keeps v (x ∷ columns) (value ∷ row) y known at = filled_keeps (with_new
    (value_at v x) v x value) columns row y known (with_new-keeps v x y value known at)

pub filled_outside : (v : Valuation) (columns : List VarId) (row : List Value) (y : VarId) → (Contains columns y
    → ⊥) → value_at (filled_from_row v columns row) y ≡ value_at v y
filled_outside v [] row y absent = refl
filled_outside v (x ∷ columns) [] y absent = refl
filled_outside v (x ∷ columns) (value ∷ row) y absent =
    filled_outside (with_new (value_at v x) v x value) columns row y (λ there. absent (later y x columns there))
    ∙ with_new-other v x y value (λ same. absent (0, omega arith, same))

pub filled_unbound : (v : Valuation) (columns : List VarId) (row : List Value) (y : VarId) → value_at v y ≡ None
    → value_at (filled_from_row v columns row) y ≡ row_cell columns row y
filled_unbound v [] row y absent = absent
filled_unbound v (x ∷ columns) [] y absent = absent
filled_unbound v (x ∷ columns) (value ∷ row) y absent = ⊎_elim
    (λ same. filled_keeps (with_new (value_at v x) v x value) columns row y value
    (with_new-there v x y value same absent) ∙ sym (cell_here x y columns value row same))
    (λ other. filled_unbound (with_new (value_at v x) v x value) columns row y (with_new-other v x y value other
    ∙ absent) ∙ sym (cell_later x y columns value row other))
    (same_or_other x y)

-- where no column is bound, its variables are bound to the values in turn
pub filled_fresh : (v : Valuation) (columns : List VarId) (row : List Value) → HasNoRepeats columns
    → ((x : VarId) → Contains columns x → value_at v x ≡ None)
    → filled_from_row v columns row ≡ with_values columns row v
filled_fresh v [] row distinct absent = refl
filled_fresh v (x ∷ columns) [] distinct absent = refl
filled_fresh v (x ∷ columns) (value ∷ row) distinct absent = by (value_at v x) (absent x (here x columns))
    (filled_fresh (with_value v x value) columns row distinct.1 (λ y there. value_at-other v x y value
    (λ same. distinct.0 (subst (Contains columns) (sym same) there)) ∙ absent y (later y x columns there)))
  where
    by : (o : Option Value) → o ≡ None
        → filled_from_row (with_value v x value) columns row ≡ with_values columns row (with_value v x value)
        → filled_from_row (with_new o v x value) columns row ≡ with_values columns row (with_value v x value)
    by None e rest = rest
    by (Some k) e rest = absurd (none-some k (sym e))

-- ---- what the part of a valuation has

pub part_outside : (v : Valuation) (xs : List VarId) (y : VarId) → (Contains xs y → ⊥)
    → value_at (valuation_part v xs) y ≡ None
part_outside v [] y absent = finite.get-empty variable_cmp y
part_outside v (x ∷ xs) y absent =
    by (value_at v x) (part_outside v xs y (λ there. absent (later y x xs there)))
  where
    by : (o : Option Value) → value_at (valuation_part v xs) y ≡ None
        → value_at (with_found (valuation_part v xs) x o) y ≡ None
    by None rest = rest
    by (Some value) rest =
        value_at-other (valuation_part v xs) x y value (λ same. absent (0, omega arith, same)) ∙ rest

pub part_inside : (v : Valuation) (xs : List VarId) (y : VarId) → Contains xs y
    → value_at (valuation_part v xs) y ≡ value_at v y
part_inside v [] y there = absurd (none_in_nil y there)
part_inside v (x ∷ xs) y there = by (value_at v x) refl (part_inside v xs y) (same_or_other x y)
  where
    by : (o : Option Value) → value_at v x ≡ o → (Contains xs y → value_at (valuation_part v xs) y
        ≡ value_at v y)
        → (x ≡ y) ⊎ (x ≡ y → ⊥) → value_at (with_found (valuation_part v xs) x o) y ≡ value_at v y
    by (Some value) e rest (inl same) =
        value_at-bound (valuation_part v xs) x y value same ∙ sym e ∙ ap (value_at v) same
    by (Some value) e rest (inr other) = value_at-other (valuation_part v xs) x y value other
        ∙ rest (⊎_elim (λ same. absurd (other same)) (λ behind. behind) (first_or_later y x xs there))
    by None e rest (inl same) = ⊎_elim rest
        (λ absent. part_outside v xs y absent ∙ sym e ∙ ap (value_at v) same) (among_or_not xs y)
    by None e rest (inr other) =
        rest (⊎_elim (λ same. absurd (other same)) (λ behind. behind) (first_or_later y x xs there))

-- the part of v that binds these variables
pub record IsPartOfValuation (v : Valuation) (variables : List VarId) (part : Valuation) : Type 0 where
  pub inside : (x : VarId) → Contains variables x → value_at part x ≡ value_at v x
  pub outside : (x : VarId) → (Contains variables x → ⊥) → value_at part x ≡ None

pub part_is : (v : Valuation) (xs : List VarId) → IsPartOfValuation v xs (valuation_part v xs)
part_is v xs = record { inside = part_inside v xs; outside = part_outside v xs }
