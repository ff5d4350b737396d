use Rattle.past_state.proofs.Vocabulary.{◌∙◌, [], sym, subst, ap, CanAskEach, tables_at, IsPast, AreMadeOf, AreTablesAtStep, AreOrderedOperators, Runs}
use Rattle.past_state.proofs.PastLemmas.{guards_hold, just_made, ordered, tables_are}
use Rattle.past_state.proofs.past.PastState.tables_at.Goals as goal

pub run-requires-clause-ordered : goal.run-requires-clause-ordered
run-requires-clause-ordered c = subst AreOrderedOperators (sym (c.as_slice.ensures.value ∙ ap (λ s. s.items.items) c.deref.ensures)) (ordered _ c.self.invariant.0)

made : (c : goal.In_ok-clone-2) → AreMadeOf c.args.self.now c.args.time c.args.events.now (record {
  guards = c.in_ok-clone.field-0.value.items;
  steps = c.in_ok-ran.ran.steps.items;
  stack = tables_at c.in_ok-clone-2.field-0.value.items.items c.in_ok-ran.ran.steps.items c.args.time c.in_ok-ran.ran.places.items;
})
made c = (
  ap (λ v. v.items) c.in_ok-clone.ensures.cases ∙ ap (λ p. p.guards) c.self.view_is,
  subst (λ l. Runs c.args.events.now c.args.time [] l c.in_ok-ran.ran.steps.items (tables_at c.in_ok-clone-2.field-0.value.items.items c.in_ok-ran.ran.steps.items c.args.time
      c.in_ok-ran.ran.places.items)) (ap (λ p. p.operators) c.self.view_is)
      (subst (λ s. Runs c.args.events.now c.args.time [] c.self.inside.operators.value.items.items c.in_ok-ran.ran.steps.items
      (tables_at s.items.items c.in_ok-ran.ran.steps.items c.args.time c.in_ok-ran.ran.places.items)) (sym c.in_ok-clone-2.ensures.cases)
      (subst (λ l. Runs c.args.events.now c.args.time [] l c.in_ok-ran.ran.steps.items (tables_at l c.in_ok-ran.ran.steps.items c.args.time c.in_ok-ran.ran.places.items))
      (c.as_slice.ensures.value ∙ ap (λ s. s.items.items) c.deref.ensures) c.in_ok-ran.ensures.runs)),
)

are : (c : goal.In_ok-clone-2) → AreTablesAtStep c.args.self.now c.args.time c.args.events.now (record {
  guards = c.in_ok-clone.field-0.value.items;
  steps = c.in_ok-ran.ran.steps.items;
  stack = tables_at c.in_ok-clone-2.field-0.value.items.items c.in_ok-ran.ran.steps.items c.args.time c.in_ok-ran.ran.places.items;
})
are c = just_made c.args.self.now c.args.time c.args.events.now _ (made c)

pub returns-clause-are : goal.returns-clause-are
returns-clause-are c = are c

pub invariant_of-result : goal.invariant_of-result
invariant_of-result c = (
  tables_are c.args.self.now c.args.time c.args.events.now _ (subst IsPast c.self.view_is c.self.invariant.0) (made c),
  subst (λ s. CanAskEach s.items.items c.in_ok-ran.ran.steps.items c.args.time c.in_ok-ran.ran.places.items) (sym c.in_ok-clone-2.ensures.cases)
      (subst (λ l. CanAskEach l c.in_ok-ran.ran.steps.items c.args.time c.in_ok-ran.ran.places.items) (c.as_slice.ensures.value ∙ ap (λ s. s.items.items) c.deref.ensures) c.in_ok-ran.ensures.asked),
)

pub returns-clause-stand : goal.returns-clause-stand
returns-clause-stand c = c.steps_stand.ensures.tables c.args.self.now c.args.time c.args.events.now _ (subst IsPast c.self.view_is c.self.invariant.0) (are c)

pub returns-clause-known : goal.returns-clause-known
returns-clause-known c = c.tables_are_known.ensures c.args.self.now c.args.time c.args.events.now _ (subst IsPast c.self.view_is c.self.invariant.0) (made c)

pub returns-clause-hold : goal.returns-clause-hold
returns-clause-hold c = guards_hold c.present_is_satisfied.ensures c.args.self.now c.args.time c.args.events.now _
    (tables_are c.args.self.now c.args.time c.args.events.now _ (subst IsPast c.self.view_is c.self.invariant.0) (made c))
    (c.steps_stand.ensures.tables c.args.self.now c.args.time c.args.events.now _ (subst IsPast c.self.view_is c.self.invariant.0) (are c))
