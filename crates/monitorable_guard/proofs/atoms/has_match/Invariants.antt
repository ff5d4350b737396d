use Rattle.monitorable_guard.proofs.Vocabulary.{take, Bor, [], Event, Valuation, Contains, IsMatchOf, bound_in}
use Rattle.monitorable_guard.proofs.atoms.has_match.Given as goal

abbrev pub invariant-loop-event : goal.invariant-loop-event
invariant-loop-event l = (event : Bor Event) → Contains (take l.event-index l.events) event → ((w : Valuation) × IsMatchOf l.terms event.now.args (bound_in l.scope) [] w) → ⊥
