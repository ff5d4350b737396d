use Rattle.windows.proofs.Vocabulary.{map}
use Rattle.windows.proofs.IndexLemmas.{NotesUpTo}
use Rattle.windows.proofs.row_index.RowIndex.of.Given as goal

abbrev pub invariant-loop-row : goal.invariant-loop-row
invariant-loop-row l = NotesUpTo l.among l.fn.columns (map (λ e. e.0) l.entries.entries) l.row-iterator l.place l.index
