use Rattle.std.proofs.Common.{length, ◌-◌, ◌≡◌, ◌≤◌, take}
use Rattle.enf_io.specs.meaning.ExchangeGrowth.{Gave}
use Rattle.enf_io.proofs.writing.write_all.Given as goal

abbrev pub invariant-loop-written : goal.invariant-loop-written
invariant-loop-written g l = record {
  within : l.written ≤ length l.bytes;
  given : Gave (take l.written l.bytes) (g.S.Sink.seen l.initial.sink).told (g.S.Sink.seen l.sink).told;
  writes : (g.S.Sink.seen l.sink).write_faults ≡ (g.S.Sink.seen l.initial.sink).write_faults;
  reads : (g.S.Sink.seen l.sink).read_faults ≡ (g.S.Sink.seen l.initial.sink).read_faults;
  late : (g.S.Sink.seen l.sink).late_reads ≡ (g.S.Sink.seen l.initial.sink).late_reads;
}

abbrev pub decreases-loop-written : goal.decreases-loop-written
decreases-loop-written g l = length l.bytes - l.written
