use Rattle.enf_run.proofs.Vocabulary.{◌∙◌, Err, Ok, refl, err_from_is_err_and, drill_line}
use Rattle.enf_run.proofs.RunLemmas.{drill_done, drill_ends, drill_lost}
use Rattle.enf_run.proofs.HandedOnLemmas.{done_handed, handed_all, handed_cut, handed_same, lack_handed}
use Rattle.enf_run.proofs.LastFlushLemmas.{text_came}
use Rattle.enf_run.proofs.run.drill.Goals as goal

pub returns-in_err-found-clause-outcome : goal.returns-in_err-found-clause-outcome
returns-in_err-found-clause-outcome g c words files report after status form =
    let p = err_from_is_err_and c.from_residual.result c.from_residual.ensures.1 in
    rw (p.1, p.2) (drill_lost _ report c.args.start c.args.steps refl refl refl form refl refl status)

pub returns-in_err-hand_on_after-clause-outcome : goal.returns-in_err-hand_on_after-clause-outcome
returns-in_err-hand_on_after-clause-outcome g c words files report after status form =
    let p = err_from_is_err_and c.from_residual-in_err-hand_on_after.result c.from_residual-in_err-hand_on_after.ensures.1 in
    let found = c.in_ok-found.found in
    let w = c.give_drill-given.ensures in
    let h = c.in_err-hand_on_after.ensures in
    let cut = c.in_err-hand_on_after.field-0.0 in
    let came = text_came (drill_line found) c.give_drill-given.result (Err cut) (g.G.Sink.seen c.args.gate.now) (g.G.Sink.seen c.give_drill-given.new.sink)
    (g.G.Sink.seen c.hand_on_after.new.gate) w h in
    rw (p.1, p.2) (drill_ends _ report c.args.start c.args.steps (h.reads ∙ w.reads) refl refl form found c.in_ok-found.ensures
    cut came (h.writes (g.G.Sink.seen c.args.gate.now).write_faults w.writes) status)

pub returns-clause-outcome : goal.returns-clause-outcome
returns-clause-outcome g c words files report after status form =
    let found = c.in_ok-found.found in
    let w = c.give_drill-given.ensures in
    let h = c.in_ok-hand_on_after.ensures in
    let came = text_came (drill_line found) c.give_drill-given.result (Ok tt) (g.G.Sink.seen c.args.gate.now) (g.G.Sink.seen c.give_drill-given.new.sink)
    (g.G.Sink.seen c.hand_on_after.new.gate) w h in
    drill_done _ report c.args.start c.args.steps (h.reads ∙ w.reads) refl refl form found c.in_ok-found.ensures
    came (h.writes (g.G.Sink.seen c.args.gate.now).write_faults w.writes) status

pub returns-in_err-found-clause-handed : goal.returns-in_err-found-clause-handed
returns-in_err-found-clause-handed g c = handed_same (g.G.Sink.seen c.args.gate.now) c.from_residual.result

pub returns-in_err-hand_on_after-clause-handed : goal.returns-in_err-hand_on_after-clause-handed
returns-in_err-hand_on_after-clause-handed g c =
    let p = err_from_is_err_and c.from_residual-in_err-hand_on_after.result c.from_residual-in_err-hand_on_after.ensures.1 in
    let h = c.in_err-hand_on_after.ensures in
    let cut = c.in_err-hand_on_after.field-0.0 in
    rw (p.1, p.2) (handed_cut (g.G.Sink.seen c.args.gate.now) (g.G.Sink.seen c.hand_on_after.new.gate) cut (h.late ∙ c.give_drill-given.ensures.late)
    (lack_handed c.give_drill-given.result cut (g.G.Sink.seen c.give_drill-given.new.sink) (g.G.Sink.seen c.hand_on_after.new.gate) h))

pub returns-clause-handed : goal.returns-clause-handed
returns-clause-handed g c =
    let h = c.in_ok-hand_on_after.ensures in
    handed_all (g.G.Sink.seen c.args.gate.now) (g.G.Sink.seen c.hand_on_after.new.gate) _ (h.late ∙ c.give_drill-given.ensures.late)
    (done_handed c.give_drill-given.result (g.G.Sink.seen c.give_drill-given.new.sink) (g.G.Sink.seen c.hand_on_after.new.gate) h)
