use Rattle.save_codec.proofs.Vocabulary.{◌≡◌, ◌++◌, All, map, take, lines_text, row_line, IsStoredRow}
use Rattle.save_codec.proofs.saving.print_rows.Given as goal

abbrev pub invariant-loop-row : goal.invariant-loop-row
invariant-loop-row l = record {
  text : l.out.items ≡ l.fn.out.items ++ lines_text (map row_line (take l.row-index l.rows));
  rows : All IsStoredRow (take l.row-index l.rows);
}
