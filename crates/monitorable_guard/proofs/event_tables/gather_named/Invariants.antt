use Rattle.monitorable_guard.proofs.Vocabulary.{◌≡◌, take, AddsRows, IsMatchOf, bound_in}
use Rattle.monitorable_guard.proofs.RowsLemmas.{SomeOf}
use Rattle.monitorable_guard.proofs.event_tables.gather_named.Given as goal

abbrev pub invariant-loop-event : goal.invariant-loop-event
invariant-loop-event l = AddsRows l.columns l.fn.out.items l.out.items
    (λ w. SomeOf (take l.event-index l.events) (λ event. (event.name ≡ l.name) × IsMatchOf l.terms event.args (bound_in l.v) l.columns w))
