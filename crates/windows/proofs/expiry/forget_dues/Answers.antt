use Rattle.windows.proofs.Vocabulary.{arith}
use Rattle.windows.proofs.EntryLemmas.{forgets_then}
use Rattle.windows.proofs.ExpiryLemmas.{least1, least2, queued1, queued2, still_in_reach, still_up_to}
use Rattle.windows.proofs.expiry.forget_dues.Goals as goal

pub forget_far-requires-clause-kept : goal.forget_far-requires-clause-kept
forget_far-requires-clause-kept c = (c.requires.kept.0, c.forget_ended-left.ensures.kept c.requires.kept.0 c.requires.kept.1)

pub returns-then-interval-gt0-clause-kept : goal.returns-then-interval-gt0-clause-kept
returns-then-interval-gt0-clause-kept c = λ long kept. c.forget_far.ensures.kept long (c.forget_ended-left.ensures.kept long kept)

pub returns-then-interval-gt0-clause-least : goal.returns-then-interval-gt0-clause-least
returns-then-interval-gt0-clause-least c =
    least2 c.args.interval c.in-Some.high c.requires.least.0 c.args.now c.args.entries.now.entries c.forget_ended-left.new.entries.entries c.args.queue.now c.forget_ended-left.new.queue c.in-Some.is
    (c.requires.queued c.in-Some.high c.in-Some.is) c.requires.kept.1.unique
    c.forget_ended-left.ensures.forgets c.forget_ended-left.ensures.settled c.forget_ended-left.ensures.lets_go
    c.forget_far.new.entries.entries c.forget_far.new.queue c.forget_far.ensures.forgets c.forget_far.ensures.settled c.forget_far.ensures.lets_go

pub returns-then-interval-gt0-clause-queued : goal.returns-then-interval-gt0-clause-queued
returns-then-interval-gt0-clause-queued c = λ high is.
    queued2 c.args.interval c.in-Some.high c.requires.least.0 c.args.now c.args.entries.now.entries c.forget_ended-left.new.entries.entries c.args.queue.now c.forget_ended-left.new.queue c.in-Some.is
    (c.requires.queued c.in-Some.high c.in-Some.is) c.requires.kept.1.unique
    c.forget_ended-left.ensures.forgets c.forget_ended-left.ensures.settled c.forget_ended-left.ensures.lets_go
    c.forget_far.new.entries.entries c.forget_far.new.queue c.forget_far.ensures.forgets c.forget_far.ensures.settled c.forget_far.ensures.lets_go

pub returns-then-interval-gt0-clause-forgets : goal.returns-then-interval-gt0-clause-forgets
returns-then-interval-gt0-clause-forgets c =
    forgets_then c.args.interval c.args.now c.args.entries.now.entries c.forget_ended-left.new.entries.entries c.forget_far.new.entries.entries c.forget_ended-left.ensures.forgets c.forget_far.ensures.forgets

pub returns-then-interval-gt0-clause-up_to : goal.returns-then-interval-gt0-clause-up_to
returns-then-interval-gt0-clause-up_to c = λ up_to.
    still_up_to _ _ c.args.now c.forget_ended-left.new.queue c.forget_far.new.queue c.forget_far.ensures.lets_go
    (still_up_to _ _ c.args.now c.args.queue.now c.forget_ended-left.new.queue c.forget_ended-left.ensures.lets_go up_to)

pub returns-then-interval-gt0-clause-in_reach : goal.returns-then-interval-gt0-clause-in_reach
returns-then-interval-gt0-clause-in_reach c = λ last in_reach.
    still_in_reach c.args.interval.high c.in-Some.high c.args.now _ _ c.forget_ended-left.new.queue c.forget_far.new.queue c.in-Some.is c.forget_far.ensures.lets_go c.forget_ended-left.ensures.live

pub returns-else-interval-gt0-clause-least : goal.returns-else-interval-gt0-clause-least
returns-else-interval-gt0-clause-least c =
    least1 c.args.interval c.in-Some.high c.requires.least.0 c.args.now c.args.entries.now.entries c.forget_ended-left.new.entries.entries c.args.queue.now c.forget_ended-left.new.queue c.in-Some.is
    (c.requires.queued c.in-Some.high c.in-Some.is) c.requires.kept.1.unique
    c.forget_ended-left.ensures.forgets c.forget_ended-left.ensures.settled c.forget_ended-left.ensures.lets_go
    c.requires.least.2 (λ low. omega (arith, low, c.if-interval-gt0.false))

pub returns-else-interval-gt0-clause-queued : goal.returns-else-interval-gt0-clause-queued
returns-else-interval-gt0-clause-queued c = λ high is.
    queued1 c.args.interval c.in-Some.high c.requires.least.0 c.args.now c.args.entries.now.entries c.forget_ended-left.new.entries.entries c.args.queue.now c.forget_ended-left.new.queue c.in-Some.is
    (c.requires.queued c.in-Some.high c.in-Some.is) c.requires.kept.1.unique
    c.forget_ended-left.ensures.forgets c.forget_ended-left.ensures.settled c.forget_ended-left.ensures.lets_go

pub returns-else-interval-gt0-clause-up_to : goal.returns-else-interval-gt0-clause-up_to
returns-else-interval-gt0-clause-up_to c = λ up_to. still_up_to _ _ c.args.now c.args.queue.now c.forget_ended-left.new.queue c.forget_ended-left.ensures.lets_go up_to
