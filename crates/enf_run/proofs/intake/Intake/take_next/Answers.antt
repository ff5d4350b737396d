-- What is seen of the gate before a read is the same once what it held back is handed on.
use Rattle.enf_run.proofs.Vocabulary.{err_from_is_err_and, takeable_bytes}
use Rattle.enf_run.proofs.HandingLemmas.{piece_held, piece_lost, read_handed}
use Rattle.enf_run.proofs.intake.Intake.take_next.Goals as goal

pub returns-in_err-hand_on-clause-cut : goal.returns-in_err-hand_on-clause-cut
returns-in_err-hand_on-clause-cut g c =
    let p = err_from_is_err_and c.from_residual.result c.from_residual.ensures.1 in
    rw (p.1, p.2) (piece_held (takeable_bytes c.args.self.now) (g.G.Sink.seen c.args.gate.now) (g.G.Sink.seen c.hand_on.new.gate) c.in_err-hand_on.field-0.0 c.in_err-hand_on.ensures)

pub returns-in_err-take_more-clause-cut : goal.returns-in_err-take_more-clause-cut
returns-in_err-take_more-clause-cut g c =
    let p = err_from_is_err_and c.from_residual-in_err-take_more.result c.from_residual-in_err-take_more.ensures.1 in
    let h = c.in_ok-hand_on.ensures in
    rw (p.1, p.2) (piece_lost (takeable_bytes c.args.self.now) (g.G.Sink.seen c.args.gate.now) (g.G.Sink.seen c.hand_on.new.gate)
    (g.G.Sink.seen c.take_more.new.gate) h.told h.reads h.writes c.in_err-take_more.ensures.lost c.in_err-take_more.ensures.writes)

pub returns-clause-turn : goal.returns-clause-turn
returns-clause-turn g c =
    let h = c.in_ok-hand_on.ensures in
    read_handed (g.G.Sink.seen c.args.gate.now) (g.G.Sink.seen c.hand_on.new.gate) (g.G.Sink.seen c.take_more.new.gate) h.told h.reads c.args.self.now c.take_more.new.self _ c.in_ok-take_more.ensures.turn
