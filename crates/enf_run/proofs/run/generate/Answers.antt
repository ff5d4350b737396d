use Rattle.enf_run.proofs.Vocabulary.{◌∙◌, Err, Ok, refl, err_from_is_err_and, generated_text}
use Rattle.enf_run.proofs.RunLemmas.{generate_done, generate_ends}
use Rattle.enf_run.proofs.HandedOnLemmas.{done_handed, handed_all, handed_cut, lack_handed}
use Rattle.enf_run.proofs.LastFlushLemmas.{log_came}
use Rattle.enf_run.proofs.run.generate.Goals as goal

pub returns-in_err-hand_on_after-clause-outcome : goal.returns-in_err-hand_on_after-clause-outcome
returns-in_err-hand_on_after-clause-outcome g c words files report after status form =
    let p = err_from_is_err_and c.from_residual.result c.from_residual.ensures.1 in
    let log = c.give_log-given.ensures in
    let h = c.in_err-hand_on_after.ensures in
    let cut = c.in_err-hand_on_after.field-0.0 in
    let came = log_came (generated_text c.args.start c.args.steps) c.give_log-given.result (Err cut) (g.G.Sink.seen c.args.gate.now) (g.G.Sink.seen c.give_log-given.new.sink)
    (g.G.Sink.seen c.hand_on_after.new.gate) log.whole log.cut h in
    rw (p.1, p.2) (generate_ends _ report c.args.start c.args.steps (h.reads ∙ log.reads) refl refl
    cut form came (h.writes (g.G.Sink.seen c.args.gate.now).write_faults log.writes) status)

pub returns-clause-outcome : goal.returns-clause-outcome
returns-clause-outcome g c words files report after status form =
    let log = c.give_log-given.ensures in
    let h = c.in_ok-hand_on_after.ensures in
    let came = log_came (generated_text c.args.start c.args.steps) c.give_log-given.result (Ok tt) (g.G.Sink.seen c.args.gate.now) (g.G.Sink.seen c.give_log-given.new.sink)
    (g.G.Sink.seen c.hand_on_after.new.gate) log.whole log.cut h in
    generate_done _ report c.args.start c.args.steps (h.reads ∙ log.reads) refl refl form came (h.writes (g.G.Sink.seen c.args.gate.now).write_faults log.writes) status

pub returns-in_err-hand_on_after-clause-handed : goal.returns-in_err-hand_on_after-clause-handed
returns-in_err-hand_on_after-clause-handed g c =
    let p = err_from_is_err_and c.from_residual.result c.from_residual.ensures.1 in
    let h = c.in_err-hand_on_after.ensures in
    let cut = c.in_err-hand_on_after.field-0.0 in
    rw (p.1, p.2) (handed_cut (g.G.Sink.seen c.args.gate.now) (g.G.Sink.seen c.hand_on_after.new.gate) cut (h.late ∙ c.give_log-given.ensures.late)
    (lack_handed c.give_log-given.result cut (g.G.Sink.seen c.give_log-given.new.sink) (g.G.Sink.seen c.hand_on_after.new.gate) h))

pub returns-clause-handed : goal.returns-clause-handed
returns-clause-handed g c =
    let h = c.in_ok-hand_on_after.ensures in
    handed_all (g.G.Sink.seen c.args.gate.now) (g.G.Sink.seen c.hand_on_after.new.gate) _ (h.late ∙ c.give_log-given.ensures.late)
    (done_handed c.give_log-given.result (g.G.Sink.seen c.give_log-given.new.sink) (g.G.Sink.seen c.hand_on_after.new.gate) h)
