use Rattle.save_codec.proofs.Vocabulary.{arith, common_steps, IsValue}
use Rattle.save_codec.proofs.PrintLemmas.{all_on}
use Rattle.save_codec.proofs.lines.print_values.Goals as goal

pub loop-value-preserved : goal.loop-value-preserved
loop-value-preserved c = record {
  text = grind (arith, common_steps);
  values = all_on IsValue c.args.values.now c.loop-value.value-index c.value-item.result c.loop-value-test.true c.value-item.is c.loop-value.invariant.values c.print_spaced_value.ensures.value;
}
