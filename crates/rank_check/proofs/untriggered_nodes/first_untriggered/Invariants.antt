use Rattle.rank_check.proofs.Vocabulary.{map, plan_of}
use Rattle.rank_check.proofs.BareLemmas.{NoneBefore}
use Rattle.rank_check.proofs.untriggered_nodes.first_untriggered.Given as goal

abbrev pub invariant-loop-plan : goal.invariant-loop-plan
invariant-loop-plan l = NoneBefore (map plan_of l.plans) l.plan-index
