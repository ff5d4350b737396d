use Rattle.monitorable_guard.proofs.Vocabulary.{◌≡◌, List, subst, take_all, Event, Valuation, AddsRows, IsMatchOf, bound_in}
use Rattle.monitorable_guard.proofs.RowsLemmas.{SomeOf, adds_more}
use Rattle.monitorable_guard.proofs.event_tables.gather_named.Goals as goal

pub loop-event-preserved : goal.loop-event-preserved
loop-event-preserved c =
    let P = λ (event : Event) (w : Valuation). (event.name ≡ c.args.name) × IsMatchOf c.args.terms.now event.args (bound_in c.args.v.now) c.args.columns.now w in
    adds_more c.args.columns.now c.args.events.now P c.loop-event.event-index
    c.event-item.result _ _ _ c.loop-event-test.true c.loop-event.invariant
    (subst (λ (event : Event). AddsRows c.args.columns.now c.loop-event.out.items c.gather_if_named.new.out.items (P event)) c.event-item.is c.in_ok-gather_if_named.ensures)

pub returns : goal.returns
returns c =
    subst (λ (l : List Event). AddsRows c.args.columns.now c.args.out.now.items c.loop-event.out.items
    (λ w. SomeOf l (λ event. (event.name ≡ c.args.name) × IsMatchOf c.args.terms.now event.args (bound_in c.args.v.now) c.args.columns.now w)))
    (take_all c.loop-event.event-index c.args.events.now c.loop-event-test.false) c.loop-event.invariant
