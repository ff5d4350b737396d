use Rattle.std.proofs.Common.{None, Some, replicate, ◌++◌, ◌-◌, ◌≡◌}
use Rattle.stream_mux.proofs.mux.Mux.new.Given as goal

abbrev pub invariant-loop-stream : goal.invariant-loop-stream
invariant-loop-stream l = l.marks ≡ replicate l.stream (Some 0) ++ replicate (l.streams - l.stream) None
