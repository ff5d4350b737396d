use Rattle.monitorable_guard.proofs.Vocabulary.{◌+◌, ◌*◌, tree_of, formula_size}
use Rattle.monitorable_guard.proofs.safety.+safety.Given as goal

abbrev pub decreases-is_safe : goal.decreases-is_safe
decreases-is_safe l = 4 * formula_size (tree_of l.formula.now) + 0

abbrev pub decreases-is_safe_test : goal.decreases-is_safe_test
decreases-is_safe_test l = 4 * formula_size (tree_of l.g.now) + 1

abbrev pub decreases-is_safe_denial : goal.decreases-is_safe_denial
decreases-is_safe_denial l = 4 * formula_size (tree_of l.g.now) + 2

abbrev pub decreases-is_safe_history : goal.decreases-is_safe_history
decreases-is_safe_history l = 4 * formula_size (tree_of l.g.now) + 3

abbrev pub decreases-is_safe_below : goal.decreases-is_safe_below
decreases-is_safe_below l = 4 * formula_size (tree_of l.body.now) + 1

abbrev pub decreases-is_safe_both : goal.decreases-is_safe_both
decreases-is_safe_both l = 4 * (formula_size (tree_of l.g.now) + formula_size (tree_of l.h.now)) + 1

abbrev pub decreases-is_safe_either : goal.decreases-is_safe_either
decreases-is_safe_either l = 4 * (formula_size (tree_of l.g.now) + formula_size (tree_of l.h.now)) + 1

abbrev pub decreases-is_safe_condition : goal.decreases-is_safe_condition
decreases-is_safe_condition l = 4 * (formula_size (tree_of l.g.now) + formula_size (tree_of l.h.now)) + 2

abbrev pub decreases-is_safe_test_with : goal.decreases-is_safe_test_with
decreases-is_safe_test_with l = 4 * (formula_size (tree_of l.g.now) + formula_size (tree_of l.h.now)) + 2

abbrev pub decreases-is_safe_range : goal.decreases-is_safe_range
decreases-is_safe_range l = 4 * (formula_size (tree_of l.g.now) + formula_size (tree_of l.h.now)) + 3
