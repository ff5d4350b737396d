use Rattle.windows.proofs.Vocabulary.{[], refl, not_from_Decides, case_within, case_from, right_at_0, again_at_2, at_0_and_2, both_at_4, dies_at_once}
use Rattle.windows.proofs.CaseLemmas.{kept-Decides}
use Rattle.windows.proofs.worked_cases.kept.Goals as goal

pub returns-clause-at_the_end : goal.returns-clause-at_the_end
returns-clause-at_the_end c = (kept-Decides (case_within 1 3) 3 right_at_0 1 0).0 refl

pub returns-clause-past_the_end : goal.returns-clause-past_the_end
returns-clause-past_the_end c = not_from_Decides _ (kept-Decides (case_within 0 2) 3 right_at_0 1 0) refl

pub returns-clause-not_far_enough_yet : goal.returns-clause-not_far_enough_yet
returns-clause-not_far_enough_yet c = (kept-Decides (case_within 5 9) 3 right_at_0 1 0).0 refl

pub returns-clause-another_row : goal.returns-clause-another_row
returns-clause-another_row c = not_from_Decides _ (kept-Decides (case_within 1 3) 3 right_at_0 2 0) refl

pub returns-clause-another_time : goal.returns-clause-another_time
returns-clause-another_time c = not_from_Decides _ (kept-Decides (case_within 1 3) 3 right_at_0 1 3) refl

pub returns-clause-without_end_the_earliest : goal.returns-clause-without_end_the_earliest
returns-clause-without_end_the_earliest c = (kept-Decides (case_from 1) 3 at_0_and_2 1 0).0 refl

pub returns-clause-without_end_no_later : goal.returns-clause-without_end_no_later
returns-clause-without_end_no_later c = not_from_Decides _ (kept-Decides (case_from 1) 3 at_0_and_2 1 2) refl

pub returns-clause-the_latest_that_is_far : goal.returns-clause-the_latest_that_is_far
returns-clause-the_latest_that_is_far c = (kept-Decides (case_within 1 5) 3 at_0_and_2 1 2).0 refl

pub returns-clause-no_earlier_that_is_far : goal.returns-clause-no_earlier_that_is_far
returns-clause-no_earlier_that_is_far c = not_from_Decides _ (kept-Decides (case_within 1 5) 3 at_0_and_2 1 0) refl

pub returns-clause-one_that_is_far : goal.returns-clause-one_that_is_far
returns-clause-one_that_is_far c = (kept-Decides (case_within 2 5) 3 at_0_and_2 1 0).0 refl

pub returns-clause-and_one_that_is_not : goal.returns-clause-and_one_that_is_not
returns-clause-and_one_that_is_not c = (kept-Decides (case_within 2 5) 3 at_0_and_2 1 2).0 refl

pub returns-clause-died : goal.returns-clause-died
returns-clause-died c = not_from_Decides _ (kept-Decides (case_within 2 5) 3 again_at_2 1 0) refl

pub returns-clause-came_again : goal.returns-clause-came_again
returns-clause-came_again c = (kept-Decides (case_within 2 5) 3 again_at_2 1 2).0 refl

pub returns-clause-lived : goal.returns-clause-lived
returns-clause-lived c = (kept-Decides (case_within 2 5) 3 again_at_2 2 0).0 refl

pub returns-clause-at_one_time : goal.returns-clause-at_one_time
returns-clause-at_one_time c = (kept-Decides (case_within 0 0) 4 both_at_4 1 4).0 refl

pub returns-clause-dies_at_once : goal.returns-clause-dies_at_once
returns-clause-dies_at_once c = not_from_Decides _ (kept-Decides (case_within 0 0) 4 dies_at_once 1 4) refl

pub returns-clause-low_past_high : goal.returns-clause-low_past_high
returns-clause-low_past_high c = (kept-Decides (case_within 5 2) 3 at_0_and_2 1 2).0 refl

pub returns-clause-no_step : goal.returns-clause-no_step
returns-clause-no_step c = not_from_Decides _ (kept-Decides (case_from 0) 3 [] 1 0) refl
