use Rattle.windows.proofs.Vocabulary.{◌∙◌, option_copied, ap, sym}
use Rattle.windows.proofs.QueryLemmas.{no_whole}
use Rattle.windows.proofs.row_query.row_of.Goals as goal

pub returns-in-None-clause-none : goal.returns-in-None-clause-none
returns-in-None-clause-none g c =
    no_whole c.args.columns.now (g.V.Lookup.valuation c.args.v.now) c.loop-column.column-index _ c.loop-column-test.true (sym (ap option_copied c.in-None.is) ∙ c.value.ensures)
