use Rattle.windows.proofs.Vocabulary.{◌↔◌, ◌⊎◌, List, take, Contains, Value}
use Rattle.windows.proofs.entries.push_rows.Given as goal

abbrev pub invariant-loop-row : goal.invariant-loop-row
invariant-loop-row l = (row : List Value) → Contains l.out.items row ↔ (Contains l.fn.out.items row ⊎ Contains (take l.row-index l.rows.rows) row)
