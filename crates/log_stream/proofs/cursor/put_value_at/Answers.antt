use Rattle.log_stream.proofs.cursor.put_value_at.Goals as goal

pub returns-in-None-clause-none : goal.returns-in-None-clause-none
returns-in-None-clause-none c = λ place end value s. (rw c.in-None.is at c.in_ok-end.ensures.none) value end s.1
