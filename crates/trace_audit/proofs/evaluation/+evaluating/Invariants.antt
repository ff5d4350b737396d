use Rattle.trace_audit.proofs.Vocabulary.{◌+◌, ◌*◌, length, take, AllByRecursion, nodes, plan_of, bound_in, filled_from_row, TellsRest, moment_of, PlanHoldsAt}
use Rattle.trace_audit.proofs.evaluation.+evaluating.Given as goal

abbrev pub decreases-evaluate : goal.decreases-evaluate
decreases-evaluate l = 3 * length (nodes (plan_of l.plan.now)) + 2

abbrev pub decreases-evaluate_under : goal.decreases-evaluate_under
decreases-evaluate_under l = 3 * length (nodes (plan_of l.body.now)) + 3

abbrev pub decreases-wake : goal.decreases-wake
decreases-wake l = 3 * length (nodes (plan_of l.waiting.node.now)) + 1

abbrev pub invariant-evaluate_under-loop-row : goal.invariant-evaluate_under-loop-row
invariant-evaluate_under-loop-row l = TellsRest (moment_of l.now)
    (λ trace. AllByRecursion (λ row. PlanHoldsAt trace (filled_from_row (bound_in l.v) l.rows.columns row) (plan_of l.body) l.now.position) (take l.row-index l.rows.rows)) l.rest
