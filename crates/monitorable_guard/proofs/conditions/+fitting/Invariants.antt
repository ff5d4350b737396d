use Rattle.monitorable_guard.proofs.Vocabulary.{◌+◌, ◌*◌, tree_of, formula_size}
use Rattle.monitorable_guard.proofs.conditions.+fitting.Given as goal

abbrev pub decreases-fits : goal.decreases-fits
decreases-fits l = 2 * formula_size (tree_of l.formula.now)

abbrev pub decreases-fit_both : goal.decreases-fit_both
decreases-fit_both l = 2 * (formula_size (tree_of l.g.now) + formula_size (tree_of l.h.now)) + 1
