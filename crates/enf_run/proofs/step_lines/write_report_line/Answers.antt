use Rattle.enf_run.proofs.Vocabulary.{List, ℕ, ◌≡◌, ◌<◌, ◌++◌, ◌∙◌, ap, arith, length, subst, err_from_is_err_and, LiteralKind, Cause, Suppress, action_line, kind_text, policy_rules_of, cut_after}
use Rattle.enf_run.proofs.TextLemmas.{Broken, broken_at_once, written_cut}
use Rattle.enf_run.proofs.step_lines.write_report_line.Goals as goal

-- a line begins with what was done
some_kind : (kind : LiteralKind) (rest : List ℕ) → 0 < length (kind_text kind ++ rest)
some_kind Cause rest = omega arith
some_kind Suppress rest = omega arith

pub returns-in_err-write_action : goal.returns-in_err-write_action
returns-in_err-write_action g c =
    let p = err_from_is_err_and c.from_residual.result c.from_residual.ensures.1 in
    let text : List ℕ = action_line c.args.names.now.signature.now (policy_rules_of c.args.names.now.policy.now) c.args.action.now in
    rw (p.1, p.2) (broken_at_once text (some_kind c.args.action.now.kind _) (g.R.Sink.seen c.args.report.now))

pub returns-in_err-write_all : goal.returns-in_err-write_all
returns-in_err-write_all g c =
    let p = err_from_is_err_and c.from_residual-in_err-write_all.result c.from_residual-in_err-write_all.ensures.1 in
    let text : List ℕ = action_line c.args.names.now.signature.now (policy_rules_of c.args.names.now.policy.now) c.args.action.now in
    let why = c.in_err-write_all.field-0.0 in
    let line : c.deref.result.now ≡ text = c.deref.ensures.value ∙ c.in_ok-write_action.ensures.ok ∙ ap (λ (t : List ℕ). t ++ text) c.clear.ensures.items in
    rw (p.1, p.2) (subst (λ (t : List ℕ). Broken t (cut_after why) (g.R.Sink.seen c.args.report.now)
    (g.R.Sink.seen c.write_all.new.sink)) line (written_cut c.deref.result.now why _ _
    c.in_err-write_all.ensures))
