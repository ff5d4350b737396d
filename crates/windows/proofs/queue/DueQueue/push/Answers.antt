use Rattle.windows.proofs.Vocabulary.{sym, ap, subst, AreUpToTime, IsDueQueue, due}
use Rattle.windows.proofs.QueueLemmas.{pushed_queue}
use Rattle.windows.proofs.queue.DueQueue.push.Goals as goal

pub invariant_of-self-2 : goal.invariant_of-self-2
invariant_of-self-2 c =
    subst (λ l. IsDueQueue (record { dues = l; far = c.self.inside.far })) (sym c.in_ok-push_back.ensures.items)
    (pushed_queue (record { dues = c.self.inside.dues.items; far = c.self.inside.far }) (due c.args.time c.args.place) c.self.invariant
    (subst (AreUpToTime c.args.time) (sym (ap (λ q. q.dues) c.self.view_is)) c.requires))
