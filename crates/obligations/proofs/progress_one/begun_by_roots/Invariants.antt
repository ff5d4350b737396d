use Rattle.obligations.proofs.Vocabulary.{Contains, List, map, take, AllByRecursion, Step, plan_of, IsNowOf, guards_now, ComesOfRoot, BegunByRoots, CanAskOf, Instance}
use Rattle.obligations.proofs.progress_one.begun_by_roots.Given as goal

abbrev pub invariant-loop-rule : goal.invariant-loop-rule
invariant-loop-rule l =
    ((trace : List Step) → IsNowOf l.now trace → BegunByRoots trace 0 (map plan_of (take l.rule l.plans)) l.begun.items)
    × AllByRecursion (CanAskOf (guards_now l.now) (map plan_of l.plans)) l.begun.items
    × ((j : Instance) → Contains l.begun.items j → ComesOfRoot l.now (map plan_of l.plans) j)
