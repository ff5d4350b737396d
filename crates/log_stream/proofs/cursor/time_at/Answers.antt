use Rattle.log_stream.proofs.cursor.time_at.Goals as goal

pub returns-in_err-time-clause-none : goal.returns-in_err-time-clause-none
returns-in_err-time-clause-none c =
    rw c.from_residual.ensures (λ time end s. c.in_err-time.ensures.none time end s.1 s.0)
