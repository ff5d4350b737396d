use Rattle.log_stream.proofs.Vocabulary.{subst, ◌<◌, ◌≤◌}
use Rattle.log_stream.proofs.FrontRecords.{tick_front, tick_front_late}
use Rattle.log_stream.proofs.RecordParts.{none_ends}
use Rattle.log_stream.proofs.WholeItems.{tick_without_end, tick_without_time}
use Rattle.log_stream.proofs.records.read_tick.Goals as goal

pub returns-in_default : goal.returns-in_default
returns-in_default c = λ entries mode l whole.
    tick_without_time entries mode c.args.bytes.now c.args.from c.bad_at.result l (λ time end s. c.in_default.ensures.none time end s) c.bad_at.ensures

pub returns-then-not-ends_here : goal.returns-then-not-ends_here
returns-then-not-ends_here c = λ entries mode l whole.
    tick_without_end entries mode c.args.bytes.now c.args.from c.in-Some.next c.in-Some.time c.bad_at-then-not-ends_here.result l c.in-Some.ensures.some
    (none_ends c.ends_here.result c.args.bytes.now c.in-Some.next c.ends_here.ensures c.if-not-ends_here.true) c.bad_at-then-not-ends_here.ensures

pub returns-then-time-most_time : goal.returns-then-time-most_time
returns-then-time-most_time c = λ entries mode l.
    tick_front_late entries mode c.args.bytes.now c.args.from c.in-Some.next c.in-Some.time l c.in-Some.ensures.some (c.ends_here.ensures.0 c.if-not-ends_here.false)
    (subst (λ n. n < c.in-Some.time) c.most_time.ensures c.if-time-most_time.true)

pub returns : goal.returns
returns c = λ entries mode l.
    tick_front entries mode c.args.bytes.now c.args.from c.in-Some.next c.in-Some.time l c.in-Some.ensures.some (c.ends_here.ensures.0 c.if-not-ends_here.false)
    (subst (λ n. c.in-Some.time ≤ n) c.most_time.ensures c.if-time-most_time.false)
