use Rattle.monitorable_guard.proofs.Vocabulary.{◌≡◌, ◌+◌, map, drop, value_of_term}
use Rattle.monitorable_guard.specs.machine.EventOrder.{leading_known}
use Rattle.monitorable_guard.proofs.events.leading.Given as goal

abbrev pub invariant-loop-place : goal.invariant-loop-place
invariant-loop-place g l = leading_known (map (value_of_term (g.V.Lookup.valuation l.v)) l.terms) ≡ l.place + leading_known (map (value_of_term (g.V.Lookup.valuation l.v)) (drop l.place l.terms))
