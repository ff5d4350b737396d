use Rattle.enf_run.proofs.Vocabulary.{err_from_is_err_and}
use Rattle.enf_run.proofs.HandingLemmas.{flush_cut}
use Rattle.enf_run.proofs.step_lines.hand_on.Goals as goal

pub returns-in_err-flush : goal.returns-in_err-flush
returns-in_err-flush g c =
    let p = err_from_is_err_and c.from_residual.result c.from_residual.ensures.1 in
    rw (p.1, p.2) (flush_cut c.in_err-flush.field-0.0 (g.G.Sink.seen c.args.gate.now) (g.G.Sink.seen c.flush.new.self) c.in_err-flush.ensures)
