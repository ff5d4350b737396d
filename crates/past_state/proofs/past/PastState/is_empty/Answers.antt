use Rattle.past_state.proofs.Vocabulary.{◌≡◌, ◌∙◌, List, [], ◌∷◌, arith, length, reverse, subst, sym, vec_len, eqb-true, Step, Formula, all_operators, PastStands, formulas_of_guards, AllStand, AreFor}
use Rattle.past_state.proofs.Vocabulary.{OperatorState}
use Rattle.past_state.proofs.past.PastState.is_empty.Goals as goal

-- where nothing is kept, there is nothing to stand for
nothing_kept : (trace : List Step) (fs : List Formula) (operators : List OperatorState) → length operators ≡ 0
    → AreFor fs operators → AllStand trace fs operators
nothing_kept trace [] operators none kept = tt
nothing_kept trace (f ∷ fs) [] none kept = kept
nothing_kept trace (f ∷ fs) (o ∷ operators) none kept = absurd (omega (arith, none))

pub returns-clause-stands : goal.returns-clause-stands
returns-clause-stands c = λ empty trace.
    let short = subst (λ s. vec_len s.items ≡ 0) c.deref.ensures (eqb-true _ 0 (sym c.is_empty.ensures ∙ empty)) in
    let none : length c.self.inside.operators.value.items.items ≡ 0 = omega (arith, short, c.self.inside.operators.value.items.ok) in
    subst (PastStands trace) c.self.view_is
    (nothing_kept trace (reverse (all_operators (formulas_of_guards c.self.inside.guards.value.items))) c.self.inside.operators.value.items.items none c.self.invariant.0.kept)
