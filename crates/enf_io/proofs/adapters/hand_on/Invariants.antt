use Rattle.std.proofs.Common.{length, ◌-◌, ◌≡◌, ◌≤◌, take, drop, List, ℕ}
use Rattle.std.specs.Io.KnownBytes.{Appends}
use Rattle.enf_io.specs.machine.Adapters.{TakesInTurns, WritesAgain}
use Rattle.enf_io.proofs.adapters.hand_on.Given as goal

abbrev pub invariant-loop-written : goal.invariant-loop-written
invariant-loop-written g l = record {
  within : l.written ≤ length l.fn.held.items;
  same : l.held ≡ l.fn.held;
  turns : (counts : List ℕ) × TakesInTurns (WritesAgain g.O.WriteOnce.write_gives) l.fn.output.writer l.fn.held.items counts
      (drop l.written l.fn.held.items) l.output.writer;
  bytes : Appends (g.O.WriteOnce.held l.fn.output.writer) (g.O.WriteOnce.held l.output.writer)
      (take l.written l.fn.held.items);
  faults : l.output.write_faults ≡ l.fn.output.write_faults;
}

abbrev pub decreases-loop-written : goal.decreases-loop-written
decreases-loop-written g l = length l.fn.held.items - l.written
