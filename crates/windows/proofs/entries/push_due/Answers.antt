use Rattle.windows.proofs.Vocabulary.{waiting_of, due}
use Rattle.windows.proofs.QueueLemmas.{last_waits}
use Rattle.windows.proofs.entries.push_due.Goals as goal

pub returns-in_ok-push-clause-waits : goal.returns-in_ok-push-clause-waits
returns-in_ok-push-clause-waits c = λ high is. last_waits (waiting_of c.args.queue.now) (waiting_of c.push.new.self) (due c.args.time c.args.place) c.in_ok-push.ensures.waits
