use Rattle.rank_check.proofs.Vocabulary.{◌≡◌, take, map, flat_map, plan_of, suppressed_below}
use Rattle.rank_check.proofs.roles.suppressed.Given as goal

abbrev pub invariant-loop-plan : goal.invariant-loop-plan
invariant-loop-plan l = l.names.items ≡ flat_map suppressed_below (map plan_of (take l.plan-index l.plans))
