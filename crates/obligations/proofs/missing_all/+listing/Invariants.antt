use Rattle.obligations.proofs.Vocabulary.{◌+◌, ◌*◌, length, take, nodes, plan_of, bound_in, filled_from_row, AddsList, AddsOf, Missing, Gathers, IsWantedUnder}
use Rattle.obligations.proofs.missing_all.+listing.Given as goal

abbrev pub decreases-push_missing : goal.decreases-push_missing
decreases-push_missing l = 2 * length (nodes (plan_of l.plan.now))

abbrev pub decreases-push_under : goal.decreases-push_under
decreases-push_under l = 2 * length (nodes (plan_of l.body.now)) + 1

abbrev pub invariant-push_under-loop-place : goal.invariant-push_under-loop-place
invariant-push_under-loop-place l =
    AddsList l.now (λ trace. Gathers (λ row. Missing trace (plan_of l.body) (filled_from_row (bound_in l.v) l.rows.columns row)) (take l.place l.rows.rows)) l.fn.out.items l.out.items
    × AddsOf (IsWantedUnder l.now (plan_of l.body) (bound_in l.v) l.rows) l.fn.out.items l.out.items
