use Rattle.past_state.proofs.Vocabulary.{◌+◌, ◌*◌, tree_of, formula_size}
use Rattle.past_state.proofs.first_memories.+pushing.Given as goal

abbrev pub decreases-push_operators : goal.decreases-push_operators
decreases-push_operators l = 2 * formula_size (tree_of l.formula.now)

abbrev pub decreases-push_both : goal.decreases-push_both
decreases-push_both l = 2 * (formula_size (tree_of l.f.now) + formula_size (tree_of l.g.now)) + 1
