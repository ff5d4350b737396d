use Rattle.rank_check.proofs.Vocabulary.{◌≡◌, map, take, plan_of, greatest, plan_size}
use Rattle.rank_check.proofs.horizon.greatest_size.Given as goal

abbrev pub invariant-loop-plan : goal.invariant-loop-plan
invariant-loop-plan l = l.most ≡ greatest (map plan_size (map plan_of (take l.plan-index l.plans)))
