use Rattle.std.proofs.Common.{◌≡◌, ◌<◌, ◌*◌, ◌/◌, drop}
use Rattle.stream_mux.specs.machine.Turns.{AreWonBut}
use Rattle.stream_mux.proofs.tree.play_up.Given as goal

abbrev pub invariant-loop-at : goal.invariant-loop-at
invariant-loop-at l =
    record {
      within : l.at < 2 * l.count;
      won : AreWonBut l.count (l.at / 2) l.nodes;
      leaves : drop l.count l.nodes ≡ drop l.count l.fn.nodes;
    }

abbrev pub decreases-loop-at : goal.decreases-loop-at
decreases-loop-at l = l.at
