use Rattle.monitorable_guard.proofs.Vocabulary.{take, AddsRows, tree_of, bound_in}
use Rattle.monitorable_guard.specs.machine.NeededEvents.{HoldsForArguments}
use Rattle.monitorable_guard.proofs.RowsLemmas.{SomeOf}
use Rattle.monitorable_guard.proofs.told_rows.gather_told.Given as goal

abbrev pub invariant-loop-event : goal.invariant-loop-event
invariant-loop-event g l = AddsRows l.columns l.fn.out.items l.out.items (λ w. SomeOf (take l.event-index l.named)
    (λ event. HoldsForArguments l.present.events.now (g.P.Past.tables l.present.past.now) (bound_in l.scope) (tree_of l.formula) l.columns event.now.args w))
