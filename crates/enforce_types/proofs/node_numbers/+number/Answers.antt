use Rattle.enforce_types.proofs.Vocabulary.{arith, plan_of}
use Rattle.enforce_types.proofs.NumberingLemmas.{has_node}
use Rattle.enforce_types.proofs.node_numbers.+number.Goals as goal

pub overflow_add-below : goal.overflow_add-below
overflow_add-below t c = omega (arith, has_node (plan_of c.args.plan.now))
