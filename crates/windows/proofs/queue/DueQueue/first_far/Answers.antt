use Rattle.windows.proofs.Vocabulary.{◌-◌, ◌<◌, All, arith, subst, waiting_of}
use Rattle.windows.proofs.QueueLemmas.{none_far}
use Rattle.windows.proofs.queue.DueQueue.first_far.Goals as goal

pub returns-then-saturating_sub-low-clause-none : goal.returns-then-saturating_sub-low-clause-none
returns-then-saturating_sub-low-clause-none c =
    let near : c.args.now - c.in_ok-due.due.now.time < c.args.low = omega (arith, c.if-saturating_sub-low.true, c.saturating_sub.ensures) in
    subst (λ q. All (λ d. c.args.now - d.time < c.args.low) (waiting_of q)) c.self.view_is
    (none_far c.args.low c.args.now c.self.inside.dues.items c.self.inside.far c.in_ok-due.due.now c.self.invariant.ordered c.in_ok-due.ensures.lookup near)
