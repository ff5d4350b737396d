use Rattle.enf_run.proofs.Vocabulary.{refl}
use Rattle.enf_run.proofs.log_run.give_rest.Goals as goal

pub returns-then-left-clause-given : goal.returns-then-left-clause-given
returns-then-left-clause-given g c = rw c.if-left.true refl

pub returns-clause-given : goal.returns-clause-given
returns-clause-given g c = rw c.if-left.false c.drain.ensures.drained
