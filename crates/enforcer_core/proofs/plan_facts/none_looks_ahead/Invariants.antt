use Rattle.enforcer_core.proofs.Vocabulary.{map, take, AllByRecursion, plan_of, LooksAtNow}
use Rattle.enforcer_core.proofs.plan_facts.none_looks_ahead.Given as goal

abbrev pub invariant-loop-plan : goal.invariant-loop-plan
invariant-loop-plan l = AllByRecursion LooksAtNow (map plan_of (take l.plan-index l.plans))
