use Rattle.monitorable_guard.proofs.Vocabulary.{◌+◌, ◌*◌, tree_of, formula_size}
use Rattle.monitorable_guard.specs.machine.AskingOrder.{placed_conjuncts, total_size}
use Rattle.monitorable_guard.proofs.order.+ordering.Given as goal

abbrev pub decreases-ordered : goal.decreases-ordered
decreases-ordered l = 2 * formula_size (tree_of l.formula.now) + 0

abbrev pub decreases-ordered_either : goal.decreases-ordered_either
decreases-ordered_either l = 2 * (formula_size (tree_of l.g.now) + formula_size (tree_of l.h.now)) + 1

abbrev pub decreases-ordered_condition : goal.decreases-ordered_condition
decreases-ordered_condition l = 2 * (formula_size (tree_of l.g.now) + formula_size (tree_of l.h.now)) + 1

abbrev pub decreases-ordered_turn : goal.decreases-ordered_turn
decreases-ordered_turn l = 2 * total_size (placed_conjuncts l.turn.now) + 1
