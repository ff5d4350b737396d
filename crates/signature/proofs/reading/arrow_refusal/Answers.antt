use Rattle.signature.proofs.Loop.{minus_refused, minus_taken}
use Rattle.signature.proofs.reading.arrow_refusal.Goals as goal

pub returns-in-Ok : goal.returns-in-Ok
returns-in-Ok c =
    minus_taken c.args.signature.now c.args.part c.args.place c.take.new.signature c.in-Ok._part (rw c.in-Ok.is at c.take.ensures)

pub returns-in-Err : goal.returns-in-Err
returns-in-Err c =
    minus_refused c.args.signature.now c.args.part c.args.place c.take.new.signature c.in-Err.refusal (rw c.in-Err.is at c.take.ensures)
