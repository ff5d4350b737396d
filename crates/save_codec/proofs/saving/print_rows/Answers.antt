use Rattle.save_codec.proofs.Vocabulary.{All, arith, subst, common_steps, IsValue, IsStoredRow}
use Rattle.save_codec.proofs.PrintLemmas.{all_on}
use Rattle.save_codec.proofs.saving.print_rows.Goals as goal

pub loop-row-preserved : goal.loop-row-preserved
loop-row-preserved c = record {
  text = grind (arith, common_steps);
  rows = all_on IsStoredRow c.args.rows.now c.loop-row.row-index c.row-item.result c.loop-row-test.true c.row-item.is c.loop-row.invariant.rows
      (omega arith, subst (All IsValue) c.as_slice.ensures c.in_ok-print_row.ensures.values);
}
