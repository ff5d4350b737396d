use Rattle.obligations.proofs.Vocabulary.{List, [], ◌∷◌, refl, ap, slice_index_or, no_values, at_5, each_next, next_for, value_1, value_2, two_and_one, Instance}
use Rattle.obligations.proofs.CaseLemmas.{both_rows, bound_apart, no_row, rows}
use Rattle.obligations.proofs.UniquenessLemmas.{begun_is_one}
use Rattle.obligations.proofs.RowsLemmas.{rows_are_one}
use Rattle.obligations.proofs.worked_cases.begun_of_rows.Goals as goal

pub returns-clause-in_order : goal.returns-clause-in_order
returns-clause-in_order c =
    (both_rows, rows, (next_for value_1 ∷ [], next_for value_2 ∷ [], refl, (next_for value_2 ∷ [], [], refl, refl, refl), refl))

pub returns-clause-not_falling : goal.returns-clause-not_falling
returns-clause-not_falling c falling =
    let same =
    begun_is_one rows_are_one (at_5 two_and_one) 0 (each_next 0) no_values (next_for value_1 ∷ next_for value_2 ∷ []) (next_for value_2 ∷ next_for value_1 ∷ []) (returns-clause-in_order c) falling
    in
    bound_apart (ap (λ (l : List Instance). (slice_index_or l 0 (next_for value_1)).valuation) same)

pub returns-clause-no_row : goal.returns-clause-no_row
returns-clause-no_row c = ([], no_row, refl)
