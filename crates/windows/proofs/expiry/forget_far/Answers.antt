use Rattle.windows.proofs.Vocabulary.{⊎_elim, ◌∙◌, ◌∷◌, ◌-◌, ◌<◌, ◌≤◌, sym, ap, arith, All-contains, Contains, IsSettledAt, waiting_of}
use Rattle.windows.proofs.EntryLemmas.{forgets_then}
use Rattle.windows.proofs.ExpiryLemmas.{settled_then}
use Rattle.windows.proofs.QueueLemmas.{first_done, passes_first}
use Rattle.windows.proofs.expiry.forget_far.Goals as goal

pub settle_at-left-requires-clause-kept : goal.settle_at-left-requires-clause-kept
settle_at-left-requires-clause-kept c = (c.requires.kept.0, c.loop-due.invariant.0 c.requires.kept.0 c.requires.kept.1)

pub loop-due-preserved : goal.loop-due-preserved
loop-due-preserved c =
    let unique = (c.loop-due.invariant.0 c.requires.kept.0 c.requires.kept.1).unique in
    let first = c.in-Some.ensures.some.1 ∙ ap (λ q. c.in-Some.due ∷ waiting_of q) (sym c.pass.ensures) in (
      λ long kept. c.settle_at-left.ensures.kept long (c.loop-due.invariant.0 long kept),
      forgets_then c.args.interval c.args.now c.args.entries.now.entries c.loop-due.entries.entries c.settle_at-left.new.entries.entries c.loop-due.invariant.1 c.settle_at-left.ensures.forgets,
      first_done (IsSettledAt c.args.high c.args.interval.low c.args.now c.loop-due.entries.entries)
          (IsSettledAt c.args.high c.args.interval.low c.args.now c.settle_at-left.new.entries.entries) (Contains (waiting_of c.args.queue.now))
          (waiting_of c.loop-due.queue) (waiting_of c.pass.new.self) c.in-Some.due first
          (λ place settled. settled_then c.args.high c.args.interval c.args.now place c.loop-due.entries.entries c.settle_at-left.new.entries.entries unique c.settle_at-left.ensures.forgets settled)
          c.settle_at-left.ensures.settled c.loop-due.invariant.2,
      passes_first (λ _. ⊥) (λ time. c.args.interval.low ≤ c.args.now - time) c.args.queue.now c.loop-due.queue c.pass.new.self c.in-Some.due c.in-Some.ensures.some.0
          c.loop-due.invariant.3 first (ap (λ q. q.dues) c.pass.ensures),
      c.settle_at-left.ensures.counted,
    )

pub returns-clause-settled : goal.returns-clause-settled
returns-clause-settled c = λ d at far.
    ⊎_elim (λ settled. settled) (λ left.
    let near : c.args.now - d.time < c.args.interval.low = All-contains (λ x. c.args.now - x.time < c.args.interval.low) (waiting_of c.loop-due.queue) d c.in_default.ensures.none left in
    absurd (omega (arith, near, far))) (c.loop-due.invariant.2 d at)
