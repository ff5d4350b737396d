use Rattle.std.proofs.Common.{◌+◌, ◌*◌, max}
use Rattle.enf_formula.specs.machine.FormulaShape.{formula_size}
use Rattle.enf_formula.specs.machine.FormulaViews.{tree_of}
use Rattle.definitions.proofs.replacing.Replacer.+replaced_all.Given as goal

abbrev pub decreases-replace : goal.decreases-replace
decreases-replace l = 4 * formula_size (tree_of l.formula.now)

abbrev pub decreases-boxed : goal.decreases-boxed
decreases-boxed l = 4 * formula_size (tree_of l.formula.now) + 1

abbrev pub decreases-bound : goal.decreases-bound
decreases-bound l = 4 * formula_size (tree_of l.formula.now) + 2

abbrev pub decreases-both : goal.decreases-both
decreases-both l = 4 * max (formula_size (tree_of l.left.now)) (formula_size (tree_of l.right.now)) + 2
