use Rattle.windows.proofs.Vocabulary.{subst, take_all, cells, SurvivesUnder}
use Rattle.windows.proofs.IndexLemmas.{NoneAt, none_found, none_more, none_yet, one_given}
use Rattle.windows.proofs.row_searches.has_found.Goals as goal

pub loop-place-init : goal.loop-place-init
loop-place-init g c = none_yet c.args.interval c.args.now (SurvivesUnder c.args.surviving.now (cells c.args.query.columns.now (g.V.Lookup.valuation c.args.query.values.now)))
    c.args.entries.now.entries

pub loop-place-preserved : goal.loop-place-preserved
loop-place-preserved g c = none_more c.args.interval c.args.now (SurvivesUnder c.args.surviving.now (cells c.args.query.columns.now (g.V.Lookup.valuation c.args.query.values.now)))
    c.args.entries.now.entries
    c.args.places.now c.loop-place.place-index _ c.is_given_at.result c.loop-place-test.true c.loop-place.invariant c.if-is_given_at.false c.is_given_at.ensures

pub returns-then-is_given_at : goal.returns-then-is_given_at
returns-then-is_given_at g c = one_given c.args.interval c.args.now (SurvivesUnder c.args.surviving.now (cells c.args.query.columns.now (g.V.Lookup.valuation c.args.query.values.now)))
    c.args.entries.now.entries
    _ c.is_given_at.result c.if-is_given_at.true c.is_given_at.ensures

pub returns : goal.returns
returns g c = none_found c.args.interval c.args.now (SurvivesUnder c.args.surviving.now (cells c.args.query.columns.now (g.V.Lookup.valuation c.args.query.values.now)))
    c.args.entries.now.entries c.args.places.now
    (λ place row times at s. c.requires place row times at s.1)
    (subst (NoneAt c.args.interval c.args.now (SurvivesUnder c.args.surviving.now (cells c.args.query.columns.now (g.V.Lookup.valuation c.args.query.values.now)))
    c.args.entries.now.entries) (take_all c.loop-place.place-index c.args.places.now c.loop-place-test.false)
    c.loop-place.invariant)
