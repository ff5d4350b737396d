use Rattle.monitorable_guard.proofs.Vocabulary.{List, sym, subst, take_all, Event, Value, Valuation, Contains-map, Contains-from_map, AddsRows, IsMatchOf, IsMatchAmong, shown_events, bound_in}
use Rattle.std.proofs.Common.{Bor}
use Rattle.monitorable_guard.proofs.RowsLemmas.{SomeOf, adds_as, adds_more}
use Rattle.monitorable_guard.proofs.atoms.gather_events.Goals as goal

pub loop-event-preserved : goal.loop-event-preserved
loop-event-preserved c =
    adds_more c.args.columns.now c.args.events.now (λ event w. IsMatchOf c.args.terms.now event.now.args (bound_in c.args.scope.now) c.args.columns.now w) c.loop-event.event-index
    c.event-item.result _ _ _ c.loop-event-test.true c.loop-event.invariant
    (subst (λ (event : Bor Event). AddsRows c.args.columns.now c.loop-event.out.items c.gather_match.new.out.items
    (IsMatchOf c.args.terms.now event.now.args (bound_in c.args.scope.now) c.args.columns.now)) c.event-item.is
    (subst (λ (values : List Value). AddsRows c.args.columns.now c.loop-event.out.items c.gather_match.new.out.items
    (IsMatchOf c.args.terms.now values (bound_in c.args.scope.now) c.args.columns.now)) c.as_slice.ensures c.in_ok-gather_match.ensures))

pub returns : goal.returns
returns c =
    let events = c.args.events.now in
    let P = λ (l : List (Bor Event)) (w : Valuation). SomeOf l (λ event. IsMatchOf c.args.terms.now event.now.args (bound_in c.args.scope.now) c.args.columns.now w) in
    adds_as c.args.columns.now _ _ (P events) (IsMatchAmong (shown_events events) c.args.terms.now (bound_in c.args.scope.now) c.args.columns.now)
    (λ w some. (some.0.now, Contains-map (λ event. event.now) events some.0 some.1, some.2))
    (λ w some none. let found = Contains-from_map (λ event. event.now) events some.0 some.1 in none
    (found.0, found.1, subst (λ (event : Event). IsMatchOf c.args.terms.now event.args (bound_in c.args.scope.now) c.args.columns.now w) (sym found.2) some.2))
    (subst (λ l. AddsRows c.args.columns.now c.args.out.now.items c.loop-event.out.items (P l)) (take_all c.loop-event.event-index events c.loop-event-test.false) c.loop-event.invariant)
