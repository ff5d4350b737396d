use Rattle.windows.proofs.Vocabulary.{[], ◌∷◌, refl, not_from_Decides, case_within, case_from, entry, right_at_0, again_at_2, at_0_and_2, both_at_4, right_now}
use Rattle.windows.proofs.CaseLemmas.{given-Decides}
use Rattle.windows.proofs.worked_cases.windows.Goals as goal

pub returns-clause-ends : goal.returns-clause-ends
returns-clause-ends c = record {
  first = (given-Decides (case_within 3 5) 3 1 right_at_0).0 refl;
  last = (given-Decides (case_within 1 3) 3 1 right_at_0).0 refl;
  before = not_from_Decides _ (given-Decides (case_within 4 6) 3 1 right_at_0) refl;
  past = not_from_Decides _ (given-Decides (case_within 0 2) 3 1 right_at_0) refl;
}

pub returns-clause-from_on : goal.returns-clause-from_on
returns-clause-from_on c = (given-Decides (case_from 3) 3 1 right_at_0).0 refl

pub returns-clause-below_from_on : goal.returns-clause-below_from_on
returns-clause-below_from_on c = not_from_Decides _ (given-Decides (case_from 4) 3 1 right_at_0) refl

pub returns-clause-another_row : goal.returns-clause-another_row
returns-clause-another_row c = not_from_Decides _ (given-Decides (case_from 0) 3 2 right_at_0) refl

pub returns-clause-at_one_time : goal.returns-clause-at_one_time
returns-clause-at_one_time c = (given-Decides (case_within 0 0) 4 1 both_at_4).0 refl

pub returns-clause-earliest : goal.returns-clause-earliest
returns-clause-earliest c = (given-Decides (case_within 3 3) 3 1 at_0_and_2).0 refl

pub returns-clause-latest : goal.returns-clause-latest
returns-clause-latest c = (given-Decides (case_within 1 1) 3 1 at_0_and_2).0 refl

pub returns-clause-at_neither : goal.returns-clause-at_neither
returns-clause-at_neither c = not_from_Decides _ (given-Decides (case_within 2 2) 3 1 at_0_and_2) refl

pub returns-clause-died : goal.returns-clause-died
returns-clause-died c = not_from_Decides _ (given-Decides (case_within 2 5) 3 1 again_at_2) refl

pub returns-clause-came_again : goal.returns-clause-came_again
returns-clause-came_again c = (given-Decides (case_within 0 1) 3 1 again_at_2).0 refl

pub returns-clause-lived : goal.returns-clause-lived
returns-clause-lived c = (given-Decides (case_within 2 5) 3 2 again_at_2).0 refl

pub returns-clause-right_now : goal.returns-clause-right_now
returns-clause-right_now c = (given-Decides (case_within 0 0) 3 1 right_now).0 refl

pub returns-clause-right_now_without_0 : goal.returns-clause-right_now_without_0
returns-clause-right_now_without_0 c = not_from_Decides _ (given-Decides (case_from 1) 3 1 right_now) refl

pub returns-clause-dies_now : goal.returns-clause-dies_now
returns-clause-dies_now c = not_from_Decides _ (given-Decides (case_from 0) 3 1 (entry 0 [] (1 ∷ []) ∷ entry 3 (2 ∷ []) [] ∷ [])) refl

pub returns-clause-no_step : goal.returns-clause-no_step
returns-clause-no_step c = not_from_Decides _ (given-Decides (case_from 0) 3 1 []) refl
