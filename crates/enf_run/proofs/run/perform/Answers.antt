use Rattle.enf_run.proofs.Vocabulary.{refl, subst, option_map, Audit, Check, Drill, Enforce, Generate, NoForm, MatchesForm, states_of, texts_of}
use Rattle.enf_run.proofs.RequestLemmas.{no_form, outcome_of}
use Rattle.enf_run.proofs.RunLemmas.{words_refused}
use Rattle.enf_run.proofs.HandedOnLemmas.{handed_same}
use Rattle.enf_run.proofs.run.perform.Goals as goal

pub returns-in-Some-Enforce-clause-outcome : goal.returns-in-Some-Enforce-clause-outcome
returns-in-Some-Enforce-clause-outcome g c after status ends =
    let form = c.in-Some-Enforce in
    let words = texts_of c.args.words.now in
    let is = subst (MatchesForm words) form.field-0-is form.ensures.some in
    let states = states_of (option_map (λ file. file.now) form.resume) (option_map (λ file. file.now) form.save) in
    outcome_of _ status Enforce (states, form.signature.now, form.policy.now, is) (c.enforce.ensures.outcome words after status is ends)

pub returns-in-Some-Check-clause-outcome : goal.returns-in-Some-Check-clause-outcome
returns-in-Some-Check-clause-outcome g c after status ends =
    let form = c.in-Some-Check in
    let words = texts_of c.args.words.now in
    let is = subst (MatchesForm words) form.field-0-is form.ensures.some in
    outcome_of _ status Check (form.signature.now, form.policy.now, is) (c.check.ensures.outcome words (g.R.Sink.seen c.args.report.now) after status is ends)

pub returns-in-Some-Audit-clause-outcome : goal.returns-in-Some-Audit-clause-outcome
returns-in-Some-Audit-clause-outcome g c after status ends =
    let form = c.in-Some-Audit in
    let words = texts_of c.args.words.now in
    let is = subst (MatchesForm words) form.field-0-is form.ensures.some in
    outcome_of _ status Audit (form.signature.now, form.policy.now, is) (c.audit.ensures.outcome words (g.R.Sink.seen c.args.report.now) after status is ends)

pub returns-in-Some-Generate-clause-outcome : goal.returns-in-Some-Generate-clause-outcome
returns-in-Some-Generate-clause-outcome g c after status ends =
    let form = c.in-Some-Generate in
    let words = texts_of c.args.words.now in
    let is = subst (MatchesForm words) form.field-0-is form.ensures.some in
    outcome_of _ status Generate (form.start, form.steps, is)
    (c.generate.ensures.outcome words (g.F.Files.seen c.args.files.now) (g.R.Sink.seen c.args.report.now) after status is ends)

pub returns-in-Some-Drill-clause-outcome : goal.returns-in-Some-Drill-clause-outcome
returns-in-Some-Drill-clause-outcome g c after status ends =
    let form = c.in-Some-Drill in
    let words = texts_of c.args.words.now in
    let is = subst (MatchesForm words) form.field-0-is form.ensures.some in
    outcome_of _ status Drill (form.start, form.steps, is)
    (c.drill.ensures.outcome words (g.F.Files.seen c.args.files.now) (g.R.Sink.seen c.args.report.now) after status is ends)

pub returns-in-None-clause-outcome : goal.returns-in-None-clause-outcome
returns-in-None-clause-outcome g c after status ends =
    let none = no_form (texts_of c.args.words.now) c.in-None.ensures.none in
    outcome_of _ status NoForm none
    (words_refused _ (g.R.Sink.seen c.args.report.now) (none, record { gate = (refl, refl); files = refl; silent = refl }) status ends)

pub returns-in-None-clause-handed : goal.returns-in-None-clause-handed
returns-in-None-clause-handed g c = handed_same (g.G.Sink.seen c.args.gate.now) _
