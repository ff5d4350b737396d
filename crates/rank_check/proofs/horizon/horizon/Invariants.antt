use Rattle.rank_check.proofs.Vocabulary.{◌≡◌, ◌+◌, ◌*◌, ◌≤◌, map, take, plan_of, class_in, greatest, with_deadlines, window_end}
use Rattle.rank_check.proofs.horizon.horizon.Given as goal

abbrev pub invariant-loop-plan : goal.invariant-loop-plan
invariant-loop-plan l = record {
  class : l.class ≡ greatest (map (class_in l.scale.above l.scale.step l.ranks) (with_deadlines (map plan_of (take l.plan-index l.plans))));
  end : l.end ≡ greatest (map window_end (with_deadlines (map plan_of (take l.plan-index l.plans))));
  low : l.class ≤ l.scale.above * l.scale.step + 400;
}
