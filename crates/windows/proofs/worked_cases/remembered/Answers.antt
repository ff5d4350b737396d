use Rattle.windows.proofs.Vocabulary.{[], ◌∷◌, ◌≡◌, refl, arith, not_from_Decides, to_the_end, agrees_itself, x_columns, entry, case_from, x_number, number_row, case_within}
use Rattle.windows.proofs.CaseLemmas.{distinct, pair-Decides, remembered-Decides}
use Rattle.windows.proofs.HeldLemmas.{none_held}
use Rattle.windows.proofs.SmallWindow.{one_row_stands}
use Rattle.windows.proofs.worked_cases.remembered.Goals as goal

pub returns-clause-near_end : goal.returns-clause-near_end
returns-clause-near_end c = (remembered-Decides (case_within 2 4) (case_within 2 4) 3 5 1).0 refl

pub returns-clause-far_end : goal.returns-clause-far_end
returns-clause-far_end c = (remembered-Decides (case_within 2 4) (case_within 2 4) 3 7 1).0 refl

pub returns-clause-too_near : goal.returns-clause-too_near
returns-clause-too_near c = not_from_Decides _ (remembered-Decides (case_within 2 4) (case_within 2 4) 3 4 1) refl

pub returns-clause-too_far : goal.returns-clause-too_far
returns-clause-too_far c = not_from_Decides _ (remembered-Decides (case_within 2 4) (case_within 2 4) 3 8 1) refl

pub returns-clause-another_row : goal.returns-clause-another_row
returns-clause-another_row c = not_from_Decides _ (remembered-Decides (case_within 2 4) (case_within 2 4) 3 5 2) refl

pub returns-clause-kept_at_once : goal.returns-clause-kept_at_once
returns-clause-kept_at_once c = (remembered-Decides (to_the_end (case_within 2 4)) (case_within 2 4) 3 3 1).0 refl

pub returns-clause-kept_to_the_end : goal.returns-clause-kept_to_the_end
returns-clause-kept_to_the_end c = (remembered-Decides (to_the_end (case_within 2 4)) (case_within 2 4) 3 7 1).0 refl

pub returns-clause-not_past_the_end : goal.returns-clause-not_past_the_end
returns-clause-not_past_the_end c = not_from_Decides _ (remembered-Decides (to_the_end (case_within 2 4)) (case_within 2 4) 3 8 1) refl

pub returns-clause-without_end : goal.returns-clause-without_end
returns-clause-without_end c = (remembered-Decides (to_the_end (case_from 2)) (case_from 2) 3 1000 1).0 refl

pub returns-clause-stands : goal.returns-clause-stands
returns-clause-stands c = one_row_stands

pub returns-clause-not_by_another_time : goal.returns-clause-not_by_another_time
returns-clause-not_by_another_time c = λ stands.
    not_from_Decides _ (pair-Decides (entry 3 [] (1 ∷ []) ∷ []) 1 2) refl
    ((stands.kept (x_number 1) 2).0 (number_row 1, 2 ∷ [], (0, omega arith, refl), (0, omega arith, refl), agrees_itself x_columns (number_row 1) distinct refl)).0

pub returns-clause-not_without_steps : goal.returns-clause-not_without_steps
returns-clause-not_without_steps c = λ stands.
    none_held (λ earlier. earlier ≡ 3) (x_number 1)
    ((stands.kept (x_number 1) 3).0 (number_row 1, 3 ∷ [], (0, omega arith, refl), (0, omega arith, refl), agrees_itself x_columns (number_row 1) distinct refl)).0
