use Rattle.past_state.proofs.Vocabulary.{◌≡◌, ◌↔◌, ◌<◌, IsTrue, IfOk, IfOk-weaker, drop, get_or, length, sym, subst, tables_at, memory_given}
use Rattle.monitorable_guard.specs.machine.Evaluation.{FirstHasUnder}
use Rattle.past_state.proofs.LazyTableLemmas.{first_has_under, first_is}
use Rattle.past_state.proofs.operator_answers.LazyTablesPast.has_some.Goals as goal

pub returns : goal.returns
returns g c =
    let tables = tables_at c.self.inside.operators.now c.self.inside.steps.now c.self.inside.time c.self.inside.places.now in
    let o = get_or c.self.inside.operators.now c.place_of-place.result c.index-self-place.result in
    let t = get_or c.self.inside.steps.now c.place_of-place.result c.index-self-place-2.result in
    let below : c.args.operator < length tables = subst (λ l. c.args.operator < length l) (sym c.self.view_is) c.requires in
    IfOk-weaker c.has_some.result _ _ (λ some told.
    subst (λ l. IsTrue some ↔ FirstHasUnder (drop c.args.operator l) (g.V.Lookup.valuation c.args.v.now)) c.self.view_is
    (first_has_under tables c.args.operator (memory_given o.memory c.self.inside.time t) (g.V.Lookup.valuation c.args.v.now) (IsTrue some) below
    (first_is c.self.inside.operators.now c.self.inside.time c.self.inside.steps.now c.self.inside.places.now c.args.operator c.place_of-place.result o t
    c.self.invariant below c.place_of-place.ensures (subst (λ x. x ≡ get_or c.self.inside.operators.now c.place_of-place.result x) c.index-self-place.is c.index-self-place.is)
    (subst (λ x. x ≡ get_or c.self.inside.steps.now c.place_of-place.result x) c.index-self-place-2.is c.index-self-place-2.is)) told)) c.has_some.ensures
