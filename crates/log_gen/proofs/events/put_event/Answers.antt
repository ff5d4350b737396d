use Rattle.log_gen.proofs.PutEvents.{Inserts-put}
use Rattle.log_gen.proofs.events.put_event.Goals as goal

pub returns-in-Ok : goal.returns-in-Ok
returns-in-Ok c = Inserts-put _ _ _ _ c.in-Ok.ensures.inserted
