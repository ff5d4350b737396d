use Rattle.obligations.proofs.Vocabulary.{◌≡◌, ◌+◌, ◌*◌, [], length, take, nodes, plan_of, bound_in, filled_from_row, AddsAsked, Begun, Gathers}
use Rattle.obligations.proofs.begin.+beginning.Given as goal

abbrev pub decreases-begin_behind : goal.decreases-begin_behind
decreases-begin_behind l = 3 * length (nodes (plan_of l.plan.now)) + 1

abbrev pub decreases-begin_later : goal.decreases-begin_later
decreases-begin_later l = 3 * length (nodes (plan_of l.plan.now))

abbrev pub decreases-begin_under : goal.decreases-begin_under
decreases-begin_under l = 3 * length (nodes (plan_of l.body.now)) + 2

abbrev pub invariant-begin_under-loop-place : goal.invariant-begin_under-loop-place
invariant-begin_under-loop-place l = record {
  puts : AddsAsked l.now l.rule (plan_of l.body) (λ trace. Gathers (λ row. Begun trace l.rule (plan_of l.body) (filled_from_row (bound_in l.v) l.rows.columns row))
      (take l.place l.rows.rows)) l.fn.into.items l.into.items;
  none : l.rows.rows ≡ [] → l.into.items ≡ l.fn.into.items;
}
