use Rattle.enf_run.proofs.Vocabulary.{List, ℕ, ap, subst, flat_map, take_all, err_from_is_err_and, action_line, policy_rules_of, Action}
use Rattle.enf_run.proofs.TextLemmas.{Broken, Whole, piece_cut, piece_whole, whole_none}
use Rattle.enf_run.proofs.step_lines.write_actions.Goals as goal

pub loop-action-init : goal.loop-action-init
loop-action-init g c = whole_none (g.R.Sink.seen c.args.report.now)

pub loop-action-preserved : goal.loop-action-preserved
loop-action-preserved g c =
    let seen = g.R.Sink.seen in
    let line = action_line c.args.names.now.signature.now (policy_rules_of c.args.names.now.policy.now) in
    let one = subst (λ (action : Action). Whole (line action) (seen c.loop-action.report) (seen c.write_report_line.new.report)) c.action-item.is c.in_ok-write_report_line.ensures in
    piece_whole line c.args.actions.now c.loop-action.action-index c.action-item.result c.loop-action-test.true
    (seen c.args.report.now) (seen c.loop-action.report) (seen c.write_report_line.new.report)
    c.loop-action.invariant one

pub returns-in_err-write_report_line : goal.returns-in_err-write_report_line
returns-in_err-write_report_line g c =
    let p = err_from_is_err_and c.from_residual.result c.from_residual.ensures.1 in
    let seen = g.R.Sink.seen in
    let cut = c.in_err-write_report_line.field-0.0 in
    let line = action_line c.args.names.now.signature.now (policy_rules_of c.args.names.now.policy.now) in
    let one = subst (λ (action : Action). Broken (line action) cut (seen c.loop-action.report) (seen c.write_report_line.new.report)) c.action-item.is c.in_err-write_report_line.ensures in
    rw (p.1, p.2) (piece_cut line c.args.actions.now c.loop-action.action-index c.action-item.result
    c.loop-action-test.true (seen c.args.report.now) (seen c.loop-action.report)
    (seen c.write_report_line.new.report) c.loop-action.invariant cut one)

pub returns : goal.returns
returns g c =
    let seen = g.R.Sink.seen in
    let line = action_line c.args.names.now.signature.now (policy_rules_of c.args.names.now.policy.now) in
    let all = ap (flat_map line) (take_all c.loop-action.action-index c.args.actions.now c.loop-action-test.false) in
    subst (λ (t : List ℕ). Whole t (seen c.args.report.now) (seen c.loop-action.report)) all c.loop-action.invariant
