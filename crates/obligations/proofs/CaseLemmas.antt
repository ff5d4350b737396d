-- The rows of p(x) at small steps, which the worked cases have in common.
use Rattle.obligations.proofs.Vocabulary.{rules, ◌≡◌, ℕ, zero, suc, List, [], ◌∷◌, length, All, Contains, Some, ap, subst, sym, arith, lit<, slice_index_or, ⊎_elim, ◌∙◌, ◌↔◌, false≢true, same_Some}
use Rattle.obligations.proofs.Vocabulary.{value_eq-Decides, first_or_later, later, none_in_nil, row_cmp, no_values, onto_values, value_at, values_of_terms, with_values, value_at-insert, Event, Var}
use Rattle.obligations.proofs.Vocabulary.{Value, event_p_of, event_q_of, formula_p_x, name_p, variable_x, IsEventAmong, at_5, bound_to, value_1, p_of_1, q_of_1, value_2, two_and_one, AreGuardRows}
use Rattle.obligations.proofs.Vocabulary.{HoldsLast}
use Rattle.std.specs.Prelude.{Option}
use Rattle.std.specs.List.Sorted.{IsStrictlySortedBy}

pub bound_is : (value : Value) → values_of_terms (bound_to value) (Var variable_x ∷ []) ≡ Some (value ∷ [])
bound_is value =
    ap (λ (v : Option Value). onto_values v (Some [])) (value_at-insert no_values variable_x value variable_x)

-- different values are bound differently
pub not_two : value_1 ≡ value_2 → ⊥
not_two same = false≢true ((value_eq-Decides value_1 value_2).1 same)

pub bound_apart : bound_to value_1 ≡ bound_to value_2 → ⊥
bound_apart same =
    not_two (same_Some value_1 value_2 (sym (value_at-insert no_values variable_x value_1 variable_x) ∙ ap (λ v. value_at v variable_x) same ∙ value_at-insert no_values variable_x value_2 variable_x))

-- the guard's rows at the step are those of the events
at_events : (events : List Event) (value : Value)
    → HoldsLast (at_5 events) (bound_to value) formula_p_x ↔ Contains events (event_p_of value)
at_events events value = (
  subst (λ (v : Option (List Value)). IsEventAmong events name_p v) (bound_is value),
  subst (λ (v : Option (List Value)). IsEventAmong events name_p v) (sym (bound_is value)),
)

module _ (events : List Event) (rows : List (List Value))
    (are : (value : Value) → Contains rows (value ∷ []) ↔ Contains events (event_p_of value)) where
  are_of : (row : List Value) → length row ≡ 1
      → Contains rows row ↔ HoldsLast (at_5 events) (with_values (variable_x ∷ []) row no_values) formula_p_x
  are_of [] fits = absurd (omega (arith, fits))
  are_of (value ∷ []) fits = (
    (λ there. (at_events events value).1 ((are value).0 there)),
    (λ holds. (are value).1 ((at_events events value).0 holds)),
  )
  are_of (value ∷ other ∷ row) fits = absurd (omega (arith, fits))

  rows_of : All (λ row. length row ≡ 1) rows → IsStrictlySortedBy row_cmp rows
      → AreGuardRows (at_5 events) no_values (variable_x ∷ []) formula_p_x rows
  rows_of fit rise = record { fit = fit; rise = rise; are = are_of }

abbrev pub one_row : List (List Value)
one_row = (value_1 ∷ []) ∷ []

abbrev pub both_rows : List (List Value)
both_rows = (value_1 ∷ []) ∷ (value_2 ∷ []) ∷ []

to_event : (value : Value) → Contains both_rows (value ∷ []) → Contains two_and_one (event_p_of value)
to_event value (zero, below, is) = (1, lit< tt, ap (λ (l : List Value). event_p_of (slice_index_or l 0 value_1)) is)
to_event value (suc zero, below, is) = (0, lit< tt, ap (λ (l : List Value). event_p_of (slice_index_or l 0 value_2)) is)
to_event value (suc (suc k), below, is) = absurd (omega (arith, below))

to_row : (value : Value) → Contains two_and_one (event_p_of value) → Contains both_rows (value ∷ [])
to_row value (zero, below, is) = (1, lit< tt, ap (λ (e : Event). e.args) is)
to_row value (suc zero, below, is) = (0, lit< tt, ap (λ (e : Event). e.args) is)
to_row value (suc (suc k), below, is) = absurd (omega (arith, below))

-- p(1) alone, and with another event after it
to_p : (value : Value) (events : List Event) → Contains one_row (value ∷ []) → Contains (p_of_1 ∷ events) (event_p_of value)
to_p value events there =
    ⊎_elim (λ same. (0, omega arith, ap (λ (l : List Value). event_p_of (slice_index_or l 0 value_1)) same)) (λ behind. absurd (none_in_nil (value ∷ []) behind))
    (first_or_later (value ∷ []) (value_1 ∷ []) [] there)

to_one : (value : Value) (events : List Event) → (Contains events (event_p_of value) → ⊥) → Contains (p_of_1 ∷ events) (event_p_of value)
    → Contains one_row (value ∷ [])
to_one value events none there =
    ⊎_elim (λ same. (0, omega arith, ap (λ (e : Event). e.args) same)) (λ behind. absurd (none behind))
    (first_or_later (event_p_of value) p_of_1 events there)

pub names_apart : ◌≡◌ {A = ℕ} 0 1 → ⊥
names_apart is = omega (arith, is)

-- an event q(..) is none of p(..)
past_q : (value : Value) (events : List Event) → Contains (q_of_1 ∷ events) (event_p_of value) → Contains events (event_p_of value)
past_q value events there =
    ⊎_elim (λ same. absurd (names_apart (ap (λ (e : Event). e.name.0) (sym same)))) (λ behind. behind)
    (first_or_later (event_p_of value) q_of_1 events there)

pub no_q : (value : Value) → Contains two_and_one (event_q_of value) → ⊥
no_q value (zero, below, is) = names_apart (ap (λ (e : Event). e.name.0) is)
no_q value (suc zero, below, is) = names_apart (ap (λ (e : Event). e.name.0) is)
no_q value (suc (suc k), below, is) = absurd (omega (arith, below))

pub rows : AreGuardRows (at_5 two_and_one) no_values (variable_x ∷ []) formula_p_x both_rows
unfolding IsStrictlySortedBy
rows = rows_of two_and_one both_rows (λ value. (to_event value, to_row value)) (search rules) (search rules)

pub rows_with_q : AreGuardRows (at_5 (q_of_1 ∷ two_and_one)) no_values (variable_x ∷ []) formula_p_x both_rows
unfolding IsStrictlySortedBy
rows_with_q =
    rows_of (q_of_1 ∷ two_and_one) both_rows
    (λ value. (
      (λ there. later (event_p_of value) q_of_1 two_and_one (to_event value there)),
      (λ there. to_row value (past_q value two_and_one there)),
    )) (search rules) (search rules)

pub no_row : AreGuardRows (at_5 []) no_values (variable_x ∷ []) formula_p_x []
unfolding IsStrictlySortedBy
no_row =
    rows_of [] [] (λ value. (
      (λ there. absurd (none_in_nil (value ∷ []) there)),
      (λ there. absurd (none_in_nil (event_p_of value) there)),
    )) (search rules) (search rules)

pub row_of_1 : AreGuardRows (at_5 (p_of_1 ∷ [])) no_values (variable_x ∷ []) formula_p_x one_row
unfolding IsStrictlySortedBy
row_of_1 =
    rows_of (p_of_1 ∷ []) one_row
    (λ value. (to_p value [], to_one value [] (none_in_nil (event_p_of value)))) (search rules) (search rules)

pub row_with_q : AreGuardRows (at_5 (p_of_1 ∷ q_of_1 ∷ [])) no_values (variable_x ∷ []) formula_p_x one_row
unfolding IsStrictlySortedBy
row_with_q =
    rows_of (p_of_1 ∷ q_of_1 ∷ []) one_row
    (λ value. (to_p value (q_of_1 ∷ []), to_one value (q_of_1 ∷ []) (λ there. none_in_nil (event_p_of value) (past_q value [] there))))
    (search rules) (search rules)
