use Rattle.monitorable_guard.proofs.Vocabulary.{take, AddsRows, IsMatchOf, bound_in}
use Rattle.monitorable_guard.proofs.RowsLemmas.{SomeOf}
use Rattle.monitorable_guard.proofs.atoms.gather_events.Given as goal

abbrev pub invariant-loop-event : goal.invariant-loop-event
invariant-loop-event l = AddsRows l.columns l.fn.out.items l.out.items (λ w. SomeOf (take l.event-index l.events) (λ event. IsMatchOf l.terms event.now.args (bound_in l.scope) l.columns w))
