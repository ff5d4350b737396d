use Rattle.windows.proofs.Vocabulary.{◌↔◌, ◌⊎◌, List, Contains, subst, take_all, Value, SurvivesUnder, cells}
use Rattle.windows.proofs.IndexLemmas.{GivenAt, found_all, found_at, found_none}
use Rattle.windows.proofs.bound_answers.push_found.Goals as goal

pub loop-place-init : goal.loop-place-init
loop-place-init g c = found_none c.args.interval c.args.now (SurvivesUnder c.args.surviving.now (cells c.args.query.columns.now (g.V.Lookup.valuation c.args.query.values.now)))
    c.args.entries.now.entries c.args.out.now.items

pub loop-place-preserved : goal.loop-place-preserved
loop-place-preserved g c = found_at c.args.interval c.args.now (SurvivesUnder c.args.surviving.now (cells c.args.query.columns.now (g.V.Lookup.valuation c.args.query.values.now)))
    c.args.entries.now.entries c.args.out.now.items c.loop-place.out.items c.push_at.new.out.items c.args.places.now c.loop-place.place-index _ c.loop-place-test.true c.loop-place.invariant
    c.in_ok-push_at.ensures

pub returns : goal.returns
returns g c =
    let S = SurvivesUnder c.args.surviving.now (cells c.args.query.columns.now (g.V.Lookup.valuation c.args.query.values.now)) in
    found_all c.args.interval c.args.now S c.args.entries.now.entries c.args.places.now c.args.out.now.items c.loop-place.out.items
    (λ place row times at s. c.requires place row times at s.1)
    (subst (λ l. (row : List Value) → Contains c.loop-place.out.items row ↔ (Contains c.args.out.now.items row ⊎ GivenAt c.args.interval c.args.now S c.args.entries.now.entries l row))
    (take_all c.loop-place.place-index c.args.places.now c.loop-place-test.false) c.loop-place.invariant)
