use Rattle.windows.proofs.Vocabulary.{◌↔◌, ◌⊎◌, List, take, Contains, Value, SurvivesUnder, cells}
use Rattle.windows.proofs.IndexLemmas.{GivenAt}
use Rattle.windows.proofs.bound_answers.push_found.Given as goal

abbrev pub invariant-loop-place : goal.invariant-loop-place
invariant-loop-place g l = (row : List Value) → Contains l.out.items row ↔ (Contains l.fn.out.items row
    ⊎ GivenAt l.interval l.now (SurvivesUnder l.surviving (cells l.query.columns.now (g.V.Lookup.valuation l.query.values.now))) l.entries.entries (take l.place-index l.places) row)
