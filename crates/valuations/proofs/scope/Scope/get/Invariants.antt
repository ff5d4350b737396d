use Rattle.valuations.proofs.Vocabulary.{◌≡◌, ◌≤◌, length, take, value_at, bound_by, bound_in}
use Rattle.valuations.proofs.scope.Scope.get.Given as goal

abbrev pub invariant-loop-place : goal.invariant-loop-place
invariant-loop-place l = (l.place ≤ length l.self-inside.bindings.items) × (value_at (bound_by (bound_in l.self-inside.below.now) l.self-inside.bindings.items) l.variable
    ≡ value_at (bound_by (bound_in l.self-inside.below.now) (take l.place l.self-inside.bindings.items)) l.variable)

abbrev pub decreases-loop-place : goal.decreases-loop-place
decreases-loop-place l = l.place
