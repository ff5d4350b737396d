use Rattle.monitorable_guard.proofs.Vocabulary.{◌≡◌, Some, map, take, value_at}
use Rattle.monitorable_guard.proofs.scope_rows.row_of.Given as goal

abbrev pub invariant-loop-column : goal.invariant-loop-column
invariant-loop-column g l = map Some l.values.items ≡ map (value_at (g.V.Lookup.valuation l.scope)) (take l.column-index l.columns)
