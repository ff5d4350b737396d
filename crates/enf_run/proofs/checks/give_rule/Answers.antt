use Rattle.enf_run.proofs.Vocabulary.{List, ℕ, ◌≡◌, ◌++◌, ◌∙◌, ap, codes, subst, err_from_is_err_and, rule_text, rule_of, rule_line, cut_after}
use Rattle.enf_run.proofs.TextLemmas.{Broken, written_cut}
use Rattle.enf_run.proofs.checks.give_rule.Goals as goal

pub returns-in_err-write_all : goal.returns-in_err-write_all
returns-in_err-write_all g c =
    let p = err_from_is_err_and c.from_residual-in_err-write_all.result c.from_residual-in_err-write_all.ensures.1 in
    let text = rule_text c.args.signature.now (rule_of c.args.rule.now) in
    let why = c.in_err-write_all.field-0.0 in
    let line : c.deref.result.now ≡ rule_line c.args.signature.now (rule_of c.args.rule.now) =
    c.deref.ensures.value ∙ c.in_ok-print_bytes.ensures.ok ∙ ap (λ (t : List ℕ). t ++ codes "\n") (c.in_ok-print_rule.ensures.ok ∙ ap (λ (t : List ℕ). t ++ text) c.clear.ensures.items) in
    rw (p.1, p.2) (subst (λ (t : List ℕ). Broken t (cut_after why) (g.S.Sink.seen c.args.sink.now)
    (g.S.Sink.seen c.write_all.new.sink)) line (written_cut c.deref.result.now why _ _
    c.in_err-write_all.ensures))
