use Rattle.windows.proofs.Vocabulary.{◌∙◌, ap, none-some, sym, cells, SurvivesUnder}
use Rattle.std.specs.Map.Iter.{deref_pair}
use Rattle.std.specs.Option.{option_map}
use Rattle.windows.proofs.IndexLemmas.{none_at_place, none_given_at, one_at_place}
use Rattle.windows.proofs.row_searches.is_given_at.Goals as goal

pub returns-in-Some : goal.returns-in-Some
returns-in-Some g c = one_at_place c.args.interval c.args.now (SurvivesUnder c.args.surviving.now (cells c.args.query.columns.now (g.V.Lookup.valuation c.args.query.values.now)))
    c.args.entries.now.entries c.args.place (c.in-Some.row.now, c.in-Some.times.now)
    c.is_given_under.result (sym c.get_index.ensures.entry ∙ ap (option_map deref_pair) c.in-Some.is) c.is_given_under.ensures.given

pub returns-in-None : goal.returns-in-None
returns-in-None g c = none_given_at c.args.interval c.args.now (SurvivesUnder c.args.surviving.now (cells c.args.query.columns.now (g.V.Lookup.valuation c.args.query.values.now)))
    c.args.entries.now.entries c.args.place
    (λ e at. none_at_place c.get_index.result deref_pair _ c.get_index.ensures.entry (λ x some. none-some x (sym c.in-None.is ∙ some)) e at)
