use Rattle.obligations.proofs.Vocabulary.{◌+◌, ◌*◌, length, take, [], List, Step, nodes, plan_of, bound_in, filled_from_row, IsNowOf, Missing, Gathers}
use Rattle.obligations.proofs.missing_first.+finding.Given as goal

abbrev pub decreases-find_missing : goal.decreases-find_missing
decreases-find_missing l = 2 * length (nodes (plan_of l.plan.now))

abbrev pub decreases-find_under : goal.decreases-find_under
decreases-find_under l = 2 * length (nodes (plan_of l.body.now)) + 1

abbrev pub decreases-misses_nothing : goal.decreases-misses_nothing
decreases-misses_nothing l = 2 * length (nodes (plan_of l.plan.now)) + 1

abbrev pub invariant-find_under-loop-place : goal.invariant-find_under-loop-place
invariant-find_under-loop-place l = (trace : List Step) → IsNowOf l.now trace
    → Gathers (λ row. Missing trace (plan_of l.body) (filled_from_row (bound_in l.v) l.rows.columns row)) (take l.place l.rows.rows) []
