use Rattle.windows.proofs.Vocabulary.{◌↔◌, ◌⊎◌, List, Contains, Value, GivesRow, GivesSomeRow, RowSurvives, AreTables}
use Rattle.windows.proofs.entries.push_given.Given as goal

abbrev pub invariant-loop-row : goal.invariant-loop-row
invariant-loop-row l =
    ((row : List Value) → (Contains l.out.items row ⊎ GivesRow l.interval l.now (RowSurvives l.surviving) l.row-iterator row)
    ↔ (Contains l.fn.out.items row ⊎ GivesRow l.interval l.now (RowSurvives l.surviving) l.entries.entries row))
    × (GivesSomeRow l.interval l.now l.entries.entries → AreTables l.surviving ⊎ GivesSomeRow l.interval l.now l.row-iterator)
