use Rattle.windows.proofs.Vocabulary.{take, SurvivesUnder, cells}
use Rattle.windows.proofs.IndexLemmas.{NoneAt}
use Rattle.windows.proofs.row_searches.has_found.Given as goal

abbrev pub invariant-loop-place : goal.invariant-loop-place
invariant-loop-place g l = NoneAt l.interval l.now (SurvivesUnder l.surviving (cells l.query.columns.now (g.V.Lookup.valuation l.query.values.now)))
    l.entries.entries (take l.place-index l.places)
