use Rattle.past_state.proofs.Vocabulary.{take, tree_of}
use Rattle.past_state.proofs.KeptRows.{KeepsHolding}
use Rattle.past_state.proofs.row_filters.surviving_rows.Given as goal

abbrev pub invariant-loop-row : goal.invariant-loop-row
invariant-loop-row g l = KeepsHolding l.events (g.P.Past.tables l.past) (tree_of l.guard.formula) l.rows.columns (take l.row-index l.rows.rows) l.surviving.items
