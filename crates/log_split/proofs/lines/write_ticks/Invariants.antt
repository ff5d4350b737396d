use Rattle.std.proofs.Common.{◌≡◌, ◌++◌}
use Rattle.log_split.specs.meaning.Streams.{lines_below, tagged_tick}
use Rattle.log_split.proofs.lines.write_ticks.Given as goal

abbrev pub invariant-loop-stream : goal.invariant-loop-stream
invariant-loop-stream l = l.out.items ≡ l.fn.out.items ++ lines_below (tagged_tick l.time) l.stream
