use Rattle.enf_run.proofs.Vocabulary.{refl}
use Rattle.enf_run.proofs.StatusDueLemmas.{dues_of}
use Rattle.enf_run.proofs.HeadlineLemmas.{headline_of}
use Rattle.enf_run.proofs.RequestLemmas.{accepted_formed}
use Rattle.enf_run.specs.declared.refusals.Status.TheVariants as statuses
use Rattle.enf_run.proofs.HandedOnLemmas.{handed_done, handed_ends}
use Rattle.enf_run.proofs.run.run.Goals as goal

pub returns-in-Err-clause-outcome : goal.returns-in-Err-clause-outcome
returns-in-Err-clause-outcome g c = c.in-Err.ensures.outcome (g.R.Sink.seen c.report_ending.new.report) c.report_ending.result c.report_ending.ensures

pub returns-in-Err-clause-due : goal.returns-in-Err-clause-due
returns-in-Err-clause-due g c =
    dues_of c.one_answer.ensures c.one_text_answer.ensures c.accepted_is_not_refused.ensures
    c.policy_has_one_answer.ensures.plans (accepted_formed c.policy_has_one_answer.ensures.plans c.read_is_well_formed.ensures
    c.plans_are_well_formed.ensures.formed)
    c.one_text.ensures c.one_answer-3.ensures.answer c.one_answer-2.ensures
    c.verdict_is_one.ensures _ c.report_ending.result
    (c.in-Err.ensures.outcome (g.R.Sink.seen c.report_ending.new.report) c.report_ending.result c.report_ending.ensures)

pub returns-in-Err-clause-headline : goal.returns-in-Err-clause-headline
returns-in-Err-clause-headline g c =
    headline_of _ c.one_answer.ensures c.one_text_answer.ensures c.accepted_is_not_refused.ensures c.report_ending.result
    (c.in-Err.ensures.outcome (g.R.Sink.seen c.report_ending.new.report) c.report_ending.result c.report_ending.ensures)

pub returns-in-Ok-Done-clause-outcome : goal.returns-in-Ok-Done-clause-outcome
returns-in-Ok-Done-clause-outcome g c = (rw c.in-Ok-Done.field-0-is at c.in-Ok-Done.ensures.outcome) (g.R.Sink.seen c.perform.new.report) statuses.Done (refl, refl)

pub returns-in-Ok-Done-clause-due : goal.returns-in-Ok-Done-clause-due
returns-in-Ok-Done-clause-due g c =
    dues_of c.one_answer.ensures c.one_text_answer.ensures c.accepted_is_not_refused.ensures
    c.policy_has_one_answer.ensures.plans (accepted_formed c.policy_has_one_answer.ensures.plans c.read_is_well_formed.ensures
    c.plans_are_well_formed.ensures.formed)
    c.one_text.ensures c.one_answer-3.ensures.answer c.one_answer-2.ensures
    c.verdict_is_one.ensures _ statuses.Done ((rw c.in-Ok-Done.field-0-is at c.in-Ok-Done.ensures.outcome)
    (g.R.Sink.seen c.perform.new.report) statuses.Done (refl, refl))

pub returns-in-Ok-Done-clause-headline : goal.returns-in-Ok-Done-clause-headline
returns-in-Ok-Done-clause-headline g c =
    headline_of _ c.one_answer.ensures c.one_text_answer.ensures c.accepted_is_not_refused.ensures statuses.Done
    ((rw c.in-Ok-Done.field-0-is at c.in-Ok-Done.ensures.outcome) (g.R.Sink.seen c.perform.new.report) statuses.Done
    (refl, refl))

pub returns-in-Ok-Violated-clause-outcome : goal.returns-in-Ok-Violated-clause-outcome
returns-in-Ok-Violated-clause-outcome g c = (rw c.in-Ok-Violated.field-0-is at c.in-Ok-Violated.ensures.outcome) (g.R.Sink.seen c.perform.new.report) statuses.Violated (refl, refl)

pub returns-in-Ok-Violated-clause-due : goal.returns-in-Ok-Violated-clause-due
returns-in-Ok-Violated-clause-due g c =
    dues_of c.one_answer.ensures c.one_text_answer.ensures c.accepted_is_not_refused.ensures
    c.policy_has_one_answer.ensures.plans (accepted_formed c.policy_has_one_answer.ensures.plans c.read_is_well_formed.ensures
    c.plans_are_well_formed.ensures.formed)
    c.one_text.ensures c.one_answer-3.ensures.answer c.one_answer-2.ensures
    c.verdict_is_one.ensures _ statuses.Violated ((rw c.in-Ok-Violated.field-0-is at c.in-Ok-Violated.ensures.outcome)
    (g.R.Sink.seen c.perform.new.report) statuses.Violated (refl, refl))

pub returns-in-Ok-Violated-clause-headline : goal.returns-in-Ok-Violated-clause-headline
returns-in-Ok-Violated-clause-headline g c =
    headline_of _ c.one_answer.ensures c.one_text_answer.ensures c.accepted_is_not_refused.ensures statuses.Violated
    ((rw c.in-Ok-Violated.field-0-is at c.in-Ok-Violated.ensures.outcome) (g.R.Sink.seen c.perform.new.report)
    statuses.Violated (refl, refl))

pub returns-in-Err-clause-handed_on : goal.returns-in-Err-clause-handed_on
returns-in-Err-clause-handed_on g c =
    handed_ends (g.G.Sink.seen c.args.gate.now) (g.G.Sink.seen c.perform.new.gate) (g.R.Sink.seen c.perform.new.report)
    (g.R.Sink.seen c.report_ending.new.report) c.in-Err.ending c.report_ending.result c.report_ending.ensures c.in-Err.ensures.handed

pub returns-in-Ok-Done-clause-handed_on : goal.returns-in-Ok-Done-clause-handed_on
returns-in-Ok-Done-clause-handed_on g c =
    handed_done (g.G.Sink.seen c.args.gate.now) (g.G.Sink.seen c.perform.new.gate) _ statuses.Done (rw c.in-Ok-Done.field-0-is at c.in-Ok-Done.ensures.handed)

pub returns-in-Ok-Violated-clause-handed_on : goal.returns-in-Ok-Violated-clause-handed_on
returns-in-Ok-Violated-clause-handed_on g c =
    handed_done (g.G.Sink.seen c.args.gate.now) (g.G.Sink.seen c.perform.new.gate) _ statuses.Violated (rw c.in-Ok-Violated.field-0-is at c.in-Ok-Violated.ensures.handed)
