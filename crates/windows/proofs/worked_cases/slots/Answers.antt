use Rattle.windows.proofs.Vocabulary.{[], ◌∷◌, refl, not_from_Decides, case_within, case_from}
use Rattle.windows.proofs.CaseLemmas.{last-Decides}
use Rattle.windows.proofs.worked_cases.slots.Goals as goal

pub returns-clause-near_end : goal.returns-clause-near_end
returns-clause-near_end c = (last-Decides (case_within 3 5) 3 1 0 (1 ∷ [])).0 refl

pub returns-clause-far_end : goal.returns-clause-far_end
returns-clause-far_end c = (last-Decides (case_within 1 3) 3 1 0 (1 ∷ [])).0 refl

pub returns-clause-too_near : goal.returns-clause-too_near
returns-clause-too_near c = not_from_Decides _ (last-Decides (case_within 4 6) 3 1 0 (1 ∷ [])) refl

pub returns-clause-too_far : goal.returns-clause-too_far
returns-clause-too_far c = not_from_Decides _ (last-Decides (case_within 0 2) 3 1 0 (1 ∷ [])) refl

pub returns-clause-from_on : goal.returns-clause-from_on
returns-clause-from_on c = (last-Decides (case_from 3) 3 1 0 (1 ∷ [])).0 refl

pub returns-clause-at_one_time : goal.returns-clause-at_one_time
returns-clause-at_one_time c = (last-Decides (case_within 0 0) 4 1 4 (1 ∷ [])).0 refl

pub returns-clause-another_row : goal.returns-clause-another_row
returns-clause-another_row c = not_from_Decides _ (last-Decides (case_from 0) 3 1 0 (2 ∷ [])) refl

pub returns-clause-before_the_first : goal.returns-clause-before_the_first
returns-clause-before_the_first c = λ g. g
