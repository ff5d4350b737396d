use Rattle.monitorable_guard.proofs.Vocabulary.{take, bound_in, filled_from_row, AgreeOnColumns, AddsRows}
use Rattle.monitorable_guard.proofs.RowsLemmas.{SomeOf}
use Rattle.monitorable_guard.proofs.scope_rows.push_rows.Given as goal

abbrev pub invariant-loop-row : goal.invariant-loop-row
invariant-loop-row l = AddsRows l.columns l.fn.out.items l.out.items (λ w. SomeOf (take l.row-index l.table.rows)
    (λ row. AgreeOnColumns l.columns w (filled_from_row (bound_in l.scope) l.table.columns row)))
