use Rattle.log_stream.proofs.Vocabulary.{[], arith, subst, err_from_is_err_and, Events, so_far}
use Rattle.log_stream.proofs.RecordParts.{AreEventsSoFar, events_done, events_more, events_start, events_too_many, events_with_bad_event, fails_bad, none_ends}
use Rattle.log_stream.proofs.records.read_events.Goals as goal

pub returns-then-ends_here-clause-ok : goal.returns-then-ends_here-clause-ok
returns-then-ends_here-clause-ok c =
    let test = c.loop-count-test.true in
    events_done c.args.signature.now c.args.bytes.now c.args.from (so_far c.loop-count.events.items c.loop-count.refused) c.loop-count._count c.loop-count.place c.loop-count.invariant
    (omega (arith, test)) (c.ends_here.ensures.0 c.if-ends_here.true)

pub returns-in_err-place-clause-err : goal.returns-in_err-place-clause-err
returns-in_err-place-clause-err c =
    let p = err_from_is_err_and c.from_residual.result c.from_residual.ensures.1 in
    let test = c.loop-count-test.true in
    rw (p.1, p.2)
    (λ mode kind time.
    events_with_bad_event c.args.signature.now mode c.args.bytes.now c.args.from (so_far c.loop-count.events.items c.loop-count.refused) c.loop-count._count c.loop-count.place kind time
    c.in_err-place.field-0.0 c.loop-count.invariant (omega (arith, test))
    (λ others few. c.in_err-place.ensures.err mode kind time others few (none_ends c.ends_here.result c.args.bytes.now c.loop-count.place c.ends_here.ensures c.if-ends_here.false)))

pub loop-count-preserved : goal.loop-count-preserved
loop-count-preserved c =
    let read = c.in_ok-place.ensures.ok in
    events_more c.args.signature.now c.args.bytes.now c.args.from (so_far c.loop-count.events.items c.loop-count.refused) c.loop-count._count c.loop-count.place c.in_ok-place.place read.0
    (so_far c.read_event.new.events.items c.read_event.new.refused) c.loop-count.invariant read.1 c.in_ok-place.ensures.within.1 read.2

pub loop-count-init : goal.loop-count-init
loop-count-init c =
    rw (c.requires.empty, c.requires.clear) (events_start c.args.signature.now c.args.bytes.now c.args.from c.requires.within)

pub returns-then-ends_here-2-clause-ok : goal.returns-then-ends_here-2-clause-ok
returns-then-ends_here-2-clause-ok c =
    let end = c.loop-count.auto._count-end in
    events_done c.args.signature.now c.args.bytes.now c.args.from (so_far c.loop-count.events.items c.loop-count.refused) c.loop-count._count c.loop-count.place c.loop-count.invariant
    (omega (arith, end)) (c.ends_here-2.ensures.0 c.if-ends_here-2.true)

pub returns-else-ends_here-2-clause-err : goal.returns-else-ends_here-2-clause-err
returns-else-ends_here-2-clause-err c = λ mode kind time.
    let end = c.loop-count.auto._count-end in
    let test = c.loop-count-test.false in
    fails_bad mode c.args.bytes.now c.args.from (Events kind time []) c.loop-count.place c.bad_at.result c.bad_at.ensures
    (events_too_many c.args.signature.now mode c.args.bytes.now c.args.from (so_far c.loop-count.events.items c.loop-count.refused) c.loop-count.place kind time
    (subst (λ n. AreEventsSoFar c.args.signature.now c.args.bytes.now c.args.from (so_far c.loop-count.events.items c.loop-count.refused) n c.loop-count.place)
    (omega (arith, end, test)) c.loop-count.invariant)
    (none_ends c.ends_here-2.result c.args.bytes.now c.loop-count.place c.ends_here-2.ensures c.if-ends_here-2.false))
