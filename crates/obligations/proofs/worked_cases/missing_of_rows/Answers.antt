use Rattle.obligations.proofs.Vocabulary.{List, [], ◌∷◌, Contains, refl, ap, subst, sym, inl, inr, ⊎_elim, lit<, slice_index_or, first_or_later, none_in_nil, no_values, Event, Value, event_q_of}
use Rattle.obligations.proofs.Vocabulary.{name_q, at_5, bound_to, cause_q_of_x, each_q, value_1, p_of_1, q_of_1, q_of_2, value_2, two_and_one, Missing, OfEvent, LiteralUnless, IsPresent}
use Rattle.obligations.proofs.Vocabulary.{cause_literal, Literal}
use Rattle.std.specs.Prelude.{Option}
use Rattle.obligations.proofs.CaseLemmas.{bound_is, both_rows, names_apart, no_q, no_row, not_two, one_row, row_of_1, row_with_q, rows, rows_with_q}
use Rattle.obligations.proofs.UniquenessLemmas.{missing_is_one}
use Rattle.obligations.proofs.RowsLemmas.{rows_are_one}
use Rattle.obligations.proofs.worked_cases.missing_of_rows.Goals as goal

-- what is missing of q(x), by what is so of its event
of_value : (events : List Event) (value : Value) (literals : List Literal)
    → LiteralUnless (IsPresent (at_5 events) (event_q_of value)) (cause_literal (event_q_of value) 1) literals
    → Missing (at_5 events) (cause_q_of_x 1) (bound_to value) literals
of_value events value literals is =
    subst (λ (v : Option (List Value)). OfEvent name_q v (λ e. LiteralUnless (IsPresent (at_5 events) e) (cause_literal e 1) literals)) (sym (bound_is value)) is

absent : (events : List Event) (value : Value) → (Contains events (event_q_of value) → ⊥)
    → Missing (at_5 events) (cause_q_of_x 1) (bound_to value) (cause_literal (event_q_of value) 1 ∷ [])
absent events value none = of_value events value (cause_literal (event_q_of value) 1 ∷ []) (inr (none, refl))

pub returns-clause-in_order : goal.returns-clause-in_order
returns-clause-in_order c = (
  both_rows,
  rows,
  (
    cause_literal q_of_1 1 ∷ [],
    cause_literal q_of_2 1 ∷ [],
    absent two_and_one value_1 (no_q value_1),
    (cause_literal q_of_2 1 ∷ [], [], absent two_and_one value_2 (no_q value_2), refl, refl),
    refl,
  ),
)

pub returns-clause-not_falling : goal.returns-clause-not_falling
returns-clause-not_falling c falling =
    let same =
    missing_is_one rows_are_one (at_5 two_and_one) (each_q 0) no_values (cause_literal q_of_1 1 ∷ cause_literal q_of_2 1 ∷ []) (cause_literal q_of_2 1 ∷ cause_literal q_of_1 1 ∷ [])
    (returns-clause-in_order c) falling
    in
    not_two (ap (λ (l : List Literal). slice_index_or (slice_index_or l 0 (cause_literal q_of_1 1)).event.args 0 value_1) same)

no_second : Contains (q_of_1 ∷ two_and_one) q_of_2 → ⊥
no_second there =
    ⊎_elim (λ same. not_two (ap (λ (e : Event). slice_index_or e.args 0 value_1) same)) (λ behind. no_q value_2 behind)
    (first_or_later q_of_2 q_of_1 two_and_one there)

pub returns-clause-one_is_there : goal.returns-clause-one_is_there
returns-clause-one_is_there c = (
  both_rows,
  rows_with_q,
  (
    [],
    cause_literal q_of_2 1 ∷ [],
    of_value (q_of_1 ∷ two_and_one) value_1 [] (inl ((0, lit< tt, refl), refl)),
    (cause_literal q_of_2 1 ∷ [], [], absent (q_of_1 ∷ two_and_one) value_2 no_second, refl, refl),
    refl,
  ),
)

pub returns-clause-no_row : goal.returns-clause-no_row
returns-clause-no_row c = ([], no_row, refl)

q_not_there : Contains (p_of_1 ∷ []) q_of_1 → ⊥
q_not_there there =
    ⊎_elim (λ same. names_apart (ap (λ (e : Event). e.name.0) same)) (λ behind. none_in_nil q_of_1 behind)
    (first_or_later q_of_1 p_of_1 [] there)

pub returns-clause-one_row : goal.returns-clause-one_row
returns-clause-one_row c =
    (one_row, row_of_1, (cause_literal q_of_1 1 ∷ [], [], absent (p_of_1 ∷ []) value_1 q_not_there, refl, refl))

pub returns-clause-one_row_met : goal.returns-clause-one_row_met
returns-clause-one_row_met c =
    (one_row, row_with_q, ([], [], of_value (p_of_1 ∷ q_of_1 ∷ []) value_1 [] (inl ((1, lit< tt, refl), refl)), refl, refl))
