use Rattle.enf_run.proofs.TwoRunCallLemmas.{calls_are_one, pauses_are_one}
use Rattle.enf_run.proofs.two_run_laws.calls_are_one.Goals as goal

pub returns-clause-drained : goal.returns-clause-drained
returns-clause-drained g c =
    calls_are_one c.one_answer.ensures c.one_text_answer.ensures c.accepted_is_not_refused.ensures c.one_answer-2.ensures c.one_log.ensures c.joins.ensures _

pub returns-clause-saved : goal.returns-clause-saved
returns-clause-saved g c =
    pauses_are_one c.one_answer.ensures c.one_text_answer.ensures c.accepted_is_not_refused.ensures c.one_answer-2.ensures c.one_log.ensures c.joins.ensures _
