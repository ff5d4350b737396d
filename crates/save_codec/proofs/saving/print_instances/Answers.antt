use Rattle.save_codec.proofs.Vocabulary.{arith, common_steps, IsStoredInstance}
use Rattle.save_codec.proofs.PrintLemmas.{all_on}
use Rattle.save_codec.proofs.saving.print_instances.Goals as goal

pub loop-instance-preserved : goal.loop-instance-preserved
loop-instance-preserved c = record {
  text = grind (arith, common_steps);
  instances = all_on IsStoredInstance c.args.instances.now c.loop-instance.instance-index c.instance-item.result c.loop-instance-test.true c.instance-item.is
      c.loop-instance.invariant.instances c.in_ok-print_instance.ensures.instance;
}
