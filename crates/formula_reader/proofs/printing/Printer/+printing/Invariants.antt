use Rattle.formula_reader.proofs.Vocabulary.{◌+◌, ◌*◌, max, tree_of, formula_size}
use Rattle.formula_reader.proofs.printing.Printer.+printing.Given as goal

abbrev pub decreases-print_formula : goal.decreases-print_formula
decreases-print_formula l = 4 * formula_size (tree_of l.formula.now)

abbrev pub decreases-print_operand : goal.decreases-print_operand
decreases-print_operand l = 4 * formula_size (tree_of l.formula.now) + 1

abbrev pub decreases-print_prefix : goal.decreases-print_prefix
decreases-print_prefix l = 4 * formula_size (tree_of l.formula.now) + 2

abbrev pub decreases-print_quantified : goal.decreases-print_quantified
decreases-print_quantified l = 4 * formula_size (tree_of l.formula.now) + 2

abbrev pub decreases-print_infix : goal.decreases-print_infix
decreases-print_infix l = 4 * max (formula_size (tree_of l.left.now)) (formula_size (tree_of l.right.now)) + 2
