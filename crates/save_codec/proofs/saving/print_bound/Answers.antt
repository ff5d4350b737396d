use Rattle.save_codec.proofs.Vocabulary.{arith, common_steps, IsValue, VarId, Value}
use Rattle.save_codec.proofs.PrintLemmas.{all_on}
use Rattle.save_codec.proofs.saving.print_bound.Goals as goal

pub loop-binding-preserved : goal.loop-binding-preserved
loop-binding-preserved c = record {
  text = grind (arith, common_steps);
  values = all_on (λ (b : VarId × Value). IsValue b.1) c.args.bindings.now c.loop-binding.binding-index c.binding-item.result c.loop-binding-test.true c.binding-item.is
      c.loop-binding.invariant.values c.print_spaced_value.ensures.value;
}
