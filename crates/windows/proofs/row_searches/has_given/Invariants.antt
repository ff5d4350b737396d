use Rattle.windows.proofs.Vocabulary.{SurvivesUnder, cells}
use Rattle.windows.proofs.IndexLemmas.{NoneBelow}
use Rattle.windows.proofs.row_searches.has_given.Given as goal

abbrev pub invariant-loop-place : goal.invariant-loop-place
invariant-loop-place g l = NoneBelow l.interval l.now (SurvivesUnder l.surviving (cells l.query.columns.now (g.V.Lookup.valuation l.query.values.now)))
    l.entries.entries l.place
