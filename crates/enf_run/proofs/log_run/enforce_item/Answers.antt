use Rattle.enf_run.proofs.Vocabulary.{List, subst, err_from_is_err_and, acted_steps, policy_rules_of, CutsSteps, seen_of}
use Rattle.enforcer_core.specs.declared.steps.OutStep.{OutStep}
use Rattle.enf_run.proofs.TurnCallLemmas.{cuts_answer}
use Rattle.enf_run.proofs.log_run.enforce_item.Goals as goal

pub returns-in_err-write_steps-in-Ok-clause-cut : goal.returns-in_err-write_steps-in-Ok-clause-cut
returns-in_err-write_steps-in-Ok-clause-cut g c =
    let p = err_from_is_err_and c.from_residual.result c.from_residual.ensures.1 in
    let before = seen_of (g.G.Sink.seen c.args.gate.now) (g.R.Sink.seen c.args.report.now) in
    let after = seen_of (g.G.Sink.seen c.write_steps.new.gate) (g.R.Sink.seen c.write_steps.new.report) in
    let entries = c.args.names.now.signature.now in
    let rules = policy_rules_of c.args.names.now.policy.now in
    let cut = c.in_err-write_steps-in-Ok.field-0.0 in
    let given = subst (λ (l : List OutStep). CutsSteps entries rules (acted_steps l) cut before after) c.as_slice.ensures c.in_err-write_steps-in-Ok.ensures.cut in
    rw (p.1, p.2) (cuts_answer entries rules _ _ after cut (record { made = c.in-Ok.out; after = c.take_item.new.enforcer; takes = c.in-Ok.ensures.taken; given = given }))
