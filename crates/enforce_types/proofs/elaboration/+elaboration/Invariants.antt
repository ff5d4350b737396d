use Rattle.enforce_types.proofs.Vocabulary.{◌+◌, ◌*◌, tree_of, formula_size}
use Rattle.enforce_types.proofs.elaboration.+elaboration.Given as goal

abbrev pub decreases-up : goal.decreases-up
decreases-up l = 4 * formula_size (tree_of l.formula.now)

abbrev pub decreases-down : goal.decreases-down
decreases-down l = 4 * formula_size (tree_of l.formula.now)

abbrev pub decreases-up_for_all : goal.decreases-up_for_all
decreases-up_for_all l = 4 * formula_size (tree_of l.body.now) + 2

abbrev pub decreases-up_implies : goal.decreases-up_implies
decreases-up_implies l = 4 * (formula_size (tree_of l.g.now) + formula_size (tree_of l.h.now)) + 1

abbrev pub decreases-exclude : goal.decreases-exclude
decreases-exclude l = 4 * formula_size (tree_of l.g.now) + 1

abbrev pub decreases-one_of_two : goal.decreases-one_of_two
decreases-one_of_two l = 4 * (formula_size (tree_of l.l.now) + formula_size (tree_of l.r.now)) + 2

abbrev pub decreases-one_side : goal.decreases-one_side
decreases-one_side l = 4 * formula_size (tree_of l.formula.now) + 1
