use Rattle.monitorable_guard.proofs.Vocabulary.{tree_of, formula_size}
use Rattle.monitorable_guard.proofs.order.+add_conjuncts.Given as goal

abbrev pub decreases-add_conjuncts : goal.decreases-add_conjuncts
decreases-add_conjuncts l = formula_size (tree_of l.formula.now)
