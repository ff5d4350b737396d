use Rattle.monitorable_guard.proofs.Vocabulary.{◌∙◌, List, [], sym, subst, refl, take_all, Bor, Event, Value, Valuation, Contains, Contains-map, Contains-from_map, IsMatchOf, bound_in, false≢true}
use Rattle.monitorable_guard.proofs.CycleLemmas.{each_more}
use Rattle.monitorable_guard.proofs.atoms.has_match.Goals as goal

pub loop-event-preserved : goal.loop-event-preserved
loop-event-preserved c =
    each_more (λ (event : Bor Event). ((w : Valuation) × IsMatchOf c.args.terms.now event.now.args (bound_in c.args.scope.now) [] w) → ⊥) c.args.events.now c.loop-event.event-index
    c.event-item.result c.loop-event-test.true c.event-item.is c.loop-event.invariant
    (λ some. false≢true (sym c.if-branch.false ∙ c.in_ok-has_values.ensures.1
    (subst (λ (values : List Value). (w : Valuation) × IsMatchOf c.args.terms.now values (bound_in c.args.scope.now) [] w) (sym c.as_slice.ensures) some)))

pub returns-then-branch : goal.returns-then-branch
returns-then-branch c =
    let event = c.event-item.result in
    let found = subst (λ (values : List Value). (w : Valuation) × IsMatchOf c.args.terms.now values (bound_in c.args.scope.now) [] w) c.as_slice.ensures
    (c.in_ok-has_values.ensures.0 c.if-branch.true) in
    (λ _. (found.0, (event.now, Contains-map (λ e. e.now) c.args.events.now event (c.loop-event.event-index, c.loop-event-test.true, sym c.event-item.is), found.1)), λ _. refl)

pub returns : goal.returns
returns c =
    let events = c.args.events.now in (
      λ t. absurd (false≢true t),
      λ some.
          let found = Contains-from_map (λ (e : Bor Event). e.now) events some.1.0 some.1.1 in
          absurd (c.loop-event.invariant found.0
          (subst (λ l. Contains l found.0) (sym (take_all c.loop-event.event-index events c.loop-event-test.false)) found.1)
          (some.0, subst (λ (event : Event). IsMatchOf c.args.terms.now event.args (bound_in c.args.scope.now) [] some.0) (sym found.2) some.1.2)),
    )
