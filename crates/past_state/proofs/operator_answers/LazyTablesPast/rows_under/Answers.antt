use Rattle.past_state.proofs.Vocabulary.{◌≡◌, ◌<◌, IfOk, drop, get_or, length, sym, subst, ok_both, FirstGivesUnder, tables_at, memory_given}
use Rattle.past_state.proofs.LazyTableLemmas.{first_gives, first_is}
use Rattle.past_state.proofs.operator_answers.LazyTablesPast.rows_under.Goals as goal

pub returns-clause-rows : goal.returns-clause-rows
returns-clause-rows g c =
    let tables = tables_at c.self.inside.operators.now c.self.inside.steps.now c.self.inside.time c.self.inside.places.now in
    let o = get_or c.self.inside.operators.now c.place_of-place.result c.index-self-place.result in
    let t = get_or c.self.inside.steps.now c.place_of-place.result c.index-self-place-2.result in
    let below : c.args.operator < length tables = subst (λ l. c.args.operator < length l) (sym c.self.view_is) c.requires in
    subst (λ l. IfOk c.rows_under.result (FirstGivesUnder (drop c.args.operator l) (g.V.Lookup.valuation c.args.v.now))) c.self.view_is
    (ok_both c.rows_under.result _ _ (FirstGivesUnder (drop c.args.operator tables) (g.V.Lookup.valuation c.args.v.now)) c.rows_under.ensures.columns c.rows_under.ensures.rows (λ rows_of columns rows.
    first_gives tables c.args.operator (memory_given o.memory c.self.inside.time t) (g.V.Lookup.valuation c.args.v.now) rows_of below
    (first_is c.self.inside.operators.now c.self.inside.time c.self.inside.steps.now c.self.inside.places.now c.args.operator c.place_of-place.result o t
    c.self.invariant below c.place_of-place.ensures (subst (λ x. x ≡ get_or c.self.inside.operators.now c.place_of-place.result x) c.index-self-place.is c.index-self-place.is)
    (subst (λ x. x ≡ get_or c.self.inside.steps.now c.place_of-place.result x) c.index-self-place-2.is c.index-self-place-2.is)) columns rows))
