use Rattle.log_stream.proofs.Vocabulary.{so_far}
use Rattle.log_stream.proofs.RecordParts.{AreEventsSoFar}
use Rattle.log_stream.proofs.records.read_events.Given as goal

abbrev pub invariant-loop-count : goal.invariant-loop-count
invariant-loop-count l =
    AreEventsSoFar l.signature l.bytes l.from (so_far l.events.items l.refused) l._count l.place
