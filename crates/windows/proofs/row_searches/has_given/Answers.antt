use Rattle.windows.proofs.Vocabulary.{◌≤◌, ◌<◌, arith, subst, cells, SurvivesUnder}
use Rattle.windows.proofs.IndexLemmas.{none_below_all, none_below_more, one_given}
use Rattle.windows.proofs.row_searches.has_given.Goals as goal

pub loop-place-init : goal.loop-place-init
loop-place-init g c = λ place below row given. absurd (omega (arith, below))

pub loop-place-preserved : goal.loop-place-preserved
loop-place-preserved g c = none_below_more c.args.interval c.args.now (SurvivesUnder c.args.surviving.now (cells c.args.query.columns.now (g.V.Lookup.valuation c.args.query.values.now)))
    c.args.entries.now.entries
    c.loop-place.place c.is_given_at.result c.loop-place.invariant c.if-is_given_at.false c.is_given_at.ensures

pub returns-then-is_given_at : goal.returns-then-is_given_at
returns-then-is_given_at g c = one_given c.args.interval c.args.now (SurvivesUnder c.args.surviving.now (cells c.args.query.columns.now (g.V.Lookup.valuation c.args.query.values.now)))
    c.args.entries.now.entries
    c.loop-place.place c.is_given_at.result c.if-is_given_at.true c.is_given_at.ensures

pub returns : goal.returns
returns g c = none_below_all c.args.interval c.args.now (SurvivesUnder c.args.surviving.now (cells c.args.query.columns.now (g.V.Lookup.valuation c.args.query.values.now)))
    c.args.entries.now.entries c.loop-place.place
    (subst (λ n. n ≤ c.loop-place.place) c.len-place-end.ensures.len c.loop-place-test.false) c.loop-place.invariant
