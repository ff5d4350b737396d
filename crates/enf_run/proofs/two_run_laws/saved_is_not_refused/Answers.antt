use Rattle.enf_run.proofs.TwoRunResumingLemmas.{asked_is_taken, comes_fitting, fitting_goes_on, nothing_fits, saved_is_taken}
use Rattle.enf_run.proofs.two_run_laws.saved_is_not_refused.Goals as goal

pub returns-clause-nothing : goal.returns-clause-nothing
returns-clause-nothing g c = nothing_fits

pub returns-clause-comes : goal.returns-clause-comes
returns-clause-comes g c =
    comes_fitting c.policy_has_one_answer.ensures.plans c.read_is_well_formed.ensures c.plans_are_well_formed.ensures.formed c.what_is_emitted_fits.ensures _

pub returns-clause-asked : goal.returns-clause-asked
returns-clause-asked g c =
    asked_is_taken c.policy_has_one_answer.ensures.plans c.read_is_well_formed.ensures c.plans_are_well_formed.ensures.formed c.saved_keeps_bounds.ensures
    c.one_answer.ensures c.one_text_answer.ensures c.accepted_is_not_refused.ensures c.one_answer-2.ensures.answer c.what_is_emitted_fits.ensures _

pub returns-clause-saved : goal.returns-clause-saved
returns-clause-saved g c =
    saved_is_taken c.policy_has_one_answer.ensures.plans c.read_is_well_formed.ensures c.plans_are_well_formed.ensures.formed c.saved_keeps_bounds.ensures
    c.one_answer.ensures c.one_text_answer.ensures c.accepted_is_not_refused.ensures c.one_answer-2.ensures.answer c.what_is_emitted_fits.ensures _

pub returns-clause-goes_on : goal.returns-clause-goes_on
returns-clause-goes_on g c =
    fitting_goes_on c.policy_has_one_answer.ensures.plans c.read_is_well_formed.ensures c.plans_are_well_formed.ensures.formed c.saved_keeps_bounds.ensures
    c.one_answer.ensures c.one_text_answer.ensures c.accepted_is_not_refused.ensures c.one_answer-2.ensures.answer c.what_is_emitted_fits.ensures _
