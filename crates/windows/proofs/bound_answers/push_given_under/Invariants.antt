use Rattle.windows.proofs.Vocabulary.{◌↔◌, ◌⊎◌, List, Contains, Value, GivesRow, GivesSomeRow, cells, SurvivesUnder, AreTables}
use Rattle.windows.proofs.bound_answers.push_given_under.Given as goal

abbrev pub invariant-loop-row : goal.invariant-loop-row
invariant-loop-row g l =
    ((row : List Value) → (Contains l.out.items row ⊎ GivesRow l.interval l.now (SurvivesUnder l.surviving (cells l.query.columns.now (g.V.Lookup.valuation l.query.values.now))) l.row-iterator row)
    ↔ (Contains l.fn.out.items row ⊎ GivesRow l.interval l.now (SurvivesUnder l.surviving (cells l.query.columns.now (g.V.Lookup.valuation l.query.values.now))) l.entries.entries row))
    × (GivesSomeRow l.interval l.now l.entries.entries → AreTables l.surviving ⊎ GivesSomeRow l.interval l.now l.row-iterator)
