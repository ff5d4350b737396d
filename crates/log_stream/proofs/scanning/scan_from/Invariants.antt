use Rattle.log_stream.proofs.Vocabulary.{◌-◌, length}
use Rattle.log_stream.proofs.Scans.{IsScanning}
use Rattle.log_stream.proofs.scanning.scan_from.Given as goal

abbrev pub invariant-loop-at : goal.invariant-loop-at
invariant-loop-at l = IsScanning l.bytes l.from l.fn.scan l.at l.place

abbrev pub decreases-loop-at : goal.decreases-loop-at
decreases-loop-at l = length l.bytes - l.at
