use Rattle.enf_run.proofs.Vocabulary.{List, ℕ, ◌≡◌, ◌++◌, ◌∙◌, ap, subst, err_from_is_err_and, drill_line, cut_after}
use Rattle.enf_run.proofs.LastFlushLemmas.{drill_some}
use Rattle.enf_run.proofs.TextLemmas.{Broken, broken_at_once, written_cut}
use Rattle.enf_run.proofs.drills.give_drill.Goals as goal

pub returns-in_err-append_line : goal.returns-in_err-append_line
returns-in_err-append_line g c =
    let p = err_from_is_err_and c.from_residual.result c.from_residual.ensures.1 in
    rw (p.1, p.2) (broken_at_once (drill_line c.args.found.now) (drill_some c.args.found.now) (g.S.Sink.seen c.args.sink.now))

pub returns-in_err-write_all : goal.returns-in_err-write_all
returns-in_err-write_all g c =
    let p = err_from_is_err_and c.from_residual-in_err-write_all.result c.from_residual-in_err-write_all.ensures.1 in
    let text : List ℕ = drill_line c.args.found.now in
    let why = c.in_err-write_all.field-0.0 in
    let line : c.deref.result.now ≡ text =
    c.deref.ensures.value ∙ c.in_ok-append_line.ensures ∙ ap (λ (t : List ℕ). t ++ text) c.new-line.ensures.items in
    rw (p.1, p.2) (subst (λ (t : List ℕ). Broken t (cut_after why) (g.S.Sink.seen c.args.sink.now)
    (g.S.Sink.seen c.write_all.new.sink)) line (written_cut c.deref.result.now why _ _
    c.in_err-write_all.ensures))
