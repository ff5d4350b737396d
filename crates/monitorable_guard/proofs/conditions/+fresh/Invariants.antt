use Rattle.monitorable_guard.proofs.Vocabulary.{◌+◌, ◌*◌, tree_of, formula_size}
use Rattle.monitorable_guard.proofs.conditions.+fresh.Given as goal

abbrev pub decreases-is_fresh : goal.decreases-is_fresh
decreases-is_fresh l = 2 * formula_size (tree_of l.formula.now)

abbrev pub decreases-are_fresh : goal.decreases-are_fresh
decreases-are_fresh l = 2 * (formula_size (tree_of l.g.now) + formula_size (tree_of l.h.now)) + 1

abbrev pub decreases-is_fresh_below : goal.decreases-is_fresh_below
decreases-is_fresh_below l = 2 * formula_size (tree_of l.body.now) + 1
