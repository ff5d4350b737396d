use Rattle.enf_run.proofs.Vocabulary.{List, ℕ, ◌≡◌, ◌++◌, ◌∙◌, ap, subst, err_from_is_err_and, out_step, acted_step, line_of, entry_names as names_of, cut_after}
use Rattle.enf_run.proofs.TextLemmas.{Broken, written_cut}
use Rattle.enf_run.proofs.step_lines.write_line.Goals as goal

pub returns-in_err-write_all : goal.returns-in_err-write_all
returns-in_err-write_all g c =
    let p = err_from_is_err_and c.from_residual-in_err-write_all.result c.from_residual-in_err-write_all.ensures.1 in
    let text : List ℕ = line_of (names_of c.args.signature.now) (out_step (acted_step c.args.step.now)) in
    let why = c.in_err-write_all.field-0.0 in
    let line : c.deref.result.now ≡ text = c.deref.ensures.value ∙ c.in_ok-write_step.ensures.ok ∙ ap (λ (t : List ℕ). t ++ text) c.clear.ensures.items in
    rw (p.1, p.2) (subst (λ (t : List ℕ). Broken t (cut_after why) (g.G.Sink.seen c.args.gate.now)
    (g.G.Sink.seen c.write_all.new.sink)) line (written_cut c.deref.result.now why _ _
    c.in_err-write_all.ensures))
