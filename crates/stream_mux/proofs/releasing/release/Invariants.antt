use Rattle.std.proofs.Common.{List, length, ◌≡◌}
use Rattle.std.specs.List.{sum_by}
use Rattle.stream_mux.specs.machine.MuxQueues.{AreLinedUp, GivesFront}
use Rattle.stream_mux.specs.meaning.MergedStreams.{StreamStep}
use Rattle.stream_mux.proofs.releasing.release.Given as goal

abbrev pub invariant-loop-item : goal.invariant-loop-item
invariant-loop-item l =
    record {
      gives : (steps : List StreamStep) → AreLinedUp l.fn.waiting steps
          → GivesFront l.bound steps l.fn.given.items l.given.items l.waiting;
      streams : length l.waiting ≡ length l.fn.waiting;
    }

abbrev pub decreases-loop-item : goal.decreases-loop-item
decreases-loop-item l = sum_by length l.waiting
