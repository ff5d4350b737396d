use Rattle.log_stream.proofs.Vocabulary.{◌-◌, length}
use Rattle.log_stream.proofs.RecordParts.{IsRowSoFar}
use Rattle.log_stream.proofs.records.read_row.Given as goal

abbrev pub invariant-loop-next : goal.invariant-loop-next
invariant-loop-next l = IsRowSoFar l.sorts l.bytes l.from l.row l.clash l.place

abbrev pub decreases-loop-next : goal.decreases-loop-next
decreases-loop-next l = length l.bytes - l.place
