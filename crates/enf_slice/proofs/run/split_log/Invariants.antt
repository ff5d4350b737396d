use Rattle.std.proofs.Common.{◌≡◌, ◌-◌, ◌≤◌, length}
use Rattle.log_stream.specs.meaning.LogGrammar.{IsPending}
use Rattle.log_split.specs.machine.Taking.{IsSplitting, most_records}
use Rattle.enf_slice.proofs.run.split_log.Given as goal

abbrev pub invariant-loop-taken : goal.invariant-loop-taken
invariant-loop-taken g l = record {
  splitting : IsSplitting l.splitter;
  pending : IsPending l.splitter.reader.rest;
  few : most_records l.splitter ≤ l.taken;
  room : length l.piece.items ≡ 65536;
  most : l.taken ≤ 1099511627776;
}

abbrev pub decreases-loop-taken : goal.decreases-loop-taken
decreases-loop-taken g l = 1099511627776 - l.taken
