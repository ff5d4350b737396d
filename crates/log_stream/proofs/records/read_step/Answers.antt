use Rattle.log_stream.proofs.Vocabulary.{◌<◌, ◌≤◌, subst, err_from_is_err_and, ReadsUpTo, so_far}
use Rattle.log_stream.proofs.FrontRecords.{step_front, step_front_late, step_front_refused}
use Rattle.log_stream.proofs.WholeItems.{step_with_bad_events, step_without_time}
use Rattle.log_stream.proofs.records.read_step.Goals as goal

pub returns-in_default : goal.returns-in_default
returns-in_default c = λ mode read l whole.
    step_without_time c.args.signature.now mode c.args.kind c.args.bytes.now c.args.from c.bad_at.result read l (λ time end s. c.in_default.ensures.none time end s) c.bad_at.ensures

pub returns-in_err-at : goal.returns-in_err-at
returns-in_err-at c = λ mode read l.
    let p = err_from_is_err_and c.from_residual.result c.from_residual.ensures.1 in
    rw (p.1, p.2) (λ whole. step_with_bad_events c.args.signature.now mode c.args.kind c.args.bytes.now c.args.from c.in-Some.next c.in-Some.time c.in_err-at.field-0.0 read l
    c.in-Some.ensures.some (c.in_err-at.ensures.err mode c.args.kind c.in-Some.time))

pub returns-then-time-most_time : goal.returns-then-time-most_time
returns-then-time-most_time c = λ mode read l.
    step_front_late c.args.signature.now mode c.args.kind c.args.bytes.now c.args.from c.in-Some.next c.in-Some.time c.in_ok-at.at
    (so_far c.read_events.new.events.items c.read_events.new.refused) read l c.in-Some.ensures.some c.in_ok-at.ensures.ok
    (subst (λ n. n < c.in-Some.time) c.most_time.ensures c.if-time-most_time.true)

pub returns-in-Some-refused : goal.returns-in-Some-refused
returns-in-Some-refused c = λ mode read l.
    let reads = subst (λ refused. ReadsUpTo c.args.signature.now c.args.bytes.now c.in-Some.next (so_far c.read_events.new.events.items refused) c.in_ok-at.at) c.in-Some-refused.is
    c.in_ok-at.ensures.ok in
    step_front_refused c.args.signature.now mode c.args.kind c.args.bytes.now c.args.from c.in-Some.next c.in-Some.time c.in_ok-at.at c.in-Some-refused.refusal read l c.in-Some.ensures.some
    reads (subst (λ n. c.in-Some.time ≤ n) c.most_time.ensures c.if-time-most_time.false)

pub returns : goal.returns
returns c = λ mode read l.
    let reads = subst (λ refused. ReadsUpTo c.args.signature.now c.args.bytes.now c.in-Some.next (so_far c.read_events.new.events.items refused) c.in_ok-at.at) c.in_default-refused.is
    c.in_ok-at.ensures.ok in
    step_front c.args.signature.now mode c.args.kind c.args.bytes.now c.args.from c.in-Some.next c.in-Some.time c.in_ok-at.at c.read_events.new.events.items c.in_ok-events.events read l
    c.in-Some.ensures.some reads c.in_ok-events.ensures (subst (λ n. c.in-Some.time ≤ n) c.most_time.ensures c.if-time-most_time.false)
