use Rattle.formula_reader.proofs.Vocabulary.{◌+◌, ◌*◌, max, tree_size, syntax_tree_of}
use Rattle.formula_reader.proofs.resolving.Resolver.+formulas.Given as goal

abbrev pub decreases-resolve_formula : goal.decreases-resolve_formula
decreases-resolve_formula l = 4 * tree_size (syntax_tree_of l.formula.now)

abbrev pub decreases-resolve_boxed : goal.decreases-resolve_boxed
decreases-resolve_boxed l = 4 * tree_size (syntax_tree_of l.formula.now) + 1

abbrev pub decreases-resolve_bound : goal.decreases-resolve_bound
decreases-resolve_bound l = 4 * tree_size (syntax_tree_of l.formula.now) + 2

abbrev pub decreases-resolve_both : goal.decreases-resolve_both
decreases-resolve_both l = 4 * max (tree_size (syntax_tree_of l.left.now)) (tree_size (syntax_tree_of l.right.now)) + 2
