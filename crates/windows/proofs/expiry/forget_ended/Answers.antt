use Rattle.windows.proofs.Vocabulary.{⊎_elim, ◌-◌, ◌≤◌, Some, arith, All-contains, Contains, IsEndedTime, IsSettledAt}
use Rattle.windows.proofs.EntryLemmas.{forgets_then}
use Rattle.windows.proofs.ExpiryLemmas.{settled_then}
use Rattle.windows.proofs.QueueLemmas.{first_done, goes_first}
use Rattle.windows.proofs.expiry.forget_ended.Goals as goal

pub settle_at-left-requires-clause-kept : goal.settle_at-left-requires-clause-kept
settle_at-left-requires-clause-kept c = (c.requires.kept.0, c.loop-due.invariant.0 c.requires.kept.0 c.requires.kept.1)

pub loop-due-preserved : goal.loop-due-preserved
loop-due-preserved c =
    let unique = (c.loop-due.invariant.0 c.requires.kept.0 c.requires.kept.1).unique in (
      λ long kept. c.settle_at-left.ensures.kept long (c.loop-due.invariant.0 long kept),
      forgets_then c.args.interval c.args.now c.args.entries.now.entries c.loop-due.entries.entries c.settle_at-left.new.entries.entries c.loop-due.invariant.1 c.settle_at-left.ensures.forgets,
      first_done (IsSettledAt c.args.high c.args.interval.low c.args.now c.loop-due.entries.entries)
          (IsSettledAt c.args.high c.args.interval.low c.args.now c.settle_at-left.new.entries.entries) (Contains c.args.queue.now.dues)
          c.loop-due.queue.dues c.take_ended.new.self.dues c.in-Some.due c.in-Some.ensures.some.1
          (λ place settled. settled_then c.args.high c.args.interval c.args.now place c.loop-due.entries.entries c.settle_at-left.new.entries.entries unique c.settle_at-left.ensures.forgets settled)
          c.settle_at-left.ensures.settled c.loop-due.invariant.2,
      goes_first (IsEndedTime (Some c.args.high) c.args.now) c.args.queue.now c.loop-due.queue c.take_ended.new.self c.in-Some.due c.in-Some.ensures.some.0 c.loop-due.invariant.3
          c.in-Some.ensures.some.1 c.in-Some.ensures.some.2,
      c.settle_at-left.ensures.counted,
    )

pub returns-clause-settled : goal.returns-clause-settled
returns-clause-settled c = λ d at ended.
    ⊎_elim (λ settled. settled) (λ left.
    let live : c.args.now - d.time ≤ c.args.high = All-contains (λ x. c.args.now - x.time ≤ c.args.high) c.loop-due.queue.dues d c.in_default.ensures.live left in
    absurd (omega (arith, live, ended))) (c.loop-due.invariant.2 d at)
