use Rattle.monitorable_guard.proofs.Vocabulary.{sym, subst, take_all, Contains-map, AddsRows, tree_of, bound_in}
use Rattle.std.proofs.Common.{Bor}
use Rattle.enf_data.specs.declared.events.Event.{Event}
use Rattle.monitorable_guard.specs.machine.NeededEvents.{BeginsWithEvent, HoldsForArguments}
use Rattle.monitorable_guard.proofs.NeededEventLemmas.{told_answers}
use Rattle.monitorable_guard.proofs.RowsLemmas.{SomeOf, adds_more}
use Rattle.monitorable_guard.proofs.told_rows.gather_told.Goals as goal

pub gather_if_told-requires-clause-there : goal.gather_if_told-requires-clause-there
gather_if_told-requires-clause-there g c = ((c.requires.named c.event-item.result.now).0
    (Contains-map (λ (e : Bor Event). e.now) c.args.named.now c.event-item.result (c.loop-event.event-index, c.loop-event-test.true, sym c.event-item.is))).0

pub gather_if_told-requires-clause-begins : goal.gather_if_told-requires-clause-begins
gather_if_told-requires-clause-begins g c =
    subst (λ n. BeginsWithEvent n c.args.columns.now (tree_of c.args.formula.now)) (sym ((c.requires.named c.event-item.result.now).0
    (Contains-map (λ (e : Bor Event). e.now) c.args.named.now c.event-item.result (c.loop-event.event-index, c.loop-event-test.true, sym c.event-item.is))).1) c.requires.begins

pub loop-event-preserved : goal.loop-event-preserved
loop-event-preserved g c =
    let E = c.args.present.now.events.now in
    let T = g.P.Past.tables c.args.present.now.past.now in
    let v = bound_in c.args.scope.now in
    let f = tree_of c.args.formula.now in
    adds_more c.args.columns.now c.args.named.now (λ event w. HoldsForArguments E T v f c.args.columns.now event.now.args w) c.loop-event.event-index c.event-item.result _ _ _
    c.loop-event-test.true c.loop-event.invariant
    (subst (λ (event : Bor Event). AddsRows c.args.columns.now c.loop-event.out.items c.gather_if_told.new.out.items (HoldsForArguments E T v f c.args.columns.now event.now.args)) c.event-item.is
    c.in_ok-gather_if_told.ensures)

pub returns : goal.returns
returns g c =
    let E = c.args.present.now.events.now in
    let T = g.P.Past.tables c.args.present.now.past.now in
    let v = bound_in c.args.scope.now in
    let f = tree_of c.args.formula.now in
    told_answers E T v f c.args.columns.now c.requires.open c.requires.ask c.args.name c.args.named.now c.requires.named c.requires.begins _ _
    (subst (λ l. AddsRows c.args.columns.now c.args.out.now.items c.loop-event.out.items (λ w. SomeOf l (λ event. HoldsForArguments E T v f c.args.columns.now event.now.args w)))
    (take_all c.loop-event.event-index c.args.named.now c.loop-event-test.false) c.loop-event.invariant)
