use Rattle.past_state.proofs.Vocabulary.{◌≡◌, ◌↔◌, ◌<◌, IsTrue, drop, get_or, length, sym, subst, FirstHas, tables_at, memory_given}
use Rattle.past_state.proofs.LazyTableLemmas.{first_has, first_is}
use Rattle.past_state.proofs.operator_answers.LazyTablesPast.has.Goals as goal

pub returns : goal.returns
returns g c =
    let tables = tables_at c.self.inside.operators.now c.self.inside.steps.now c.self.inside.time c.self.inside.places.now in
    let o = get_or c.self.inside.operators.now c.place_of-place.result c.index-self-place.result in
    let t = get_or c.self.inside.steps.now c.place_of-place.result c.index-self-place-2.result in
    let below : c.args.operator < length tables = subst (λ l. c.args.operator < length l) (sym c.self.view_is) c.requires in
    subst (λ l. IsTrue c.answers.result ↔ FirstHas (drop c.args.operator l) (g.V.Lookup.valuation c.args.v.now)) c.self.view_is
    (first_has tables c.args.operator (memory_given o.memory c.self.inside.time t) (g.V.Lookup.valuation c.args.v.now) (IsTrue c.answers.result) below
    (first_is c.self.inside.operators.now c.self.inside.time c.self.inside.steps.now c.self.inside.places.now c.args.operator c.place_of-place.result o t
    c.self.invariant below c.place_of-place.ensures (subst (λ x. x ≡ get_or c.self.inside.operators.now c.place_of-place.result x) c.index-self-place.is c.index-self-place.is)
    (subst (λ x. x ≡ get_or c.self.inside.steps.now c.place_of-place.result x) c.index-self-place-2.is c.index-self-place-2.is)) c.answers.ensures)
