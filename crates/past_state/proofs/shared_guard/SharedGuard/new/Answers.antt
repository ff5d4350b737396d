use Rattle.past_state.proofs.Vocabulary.{sym, subst, AreOpen, BoundFormula, tree_of}
use Rattle.past_state.proofs.shared_guard.SharedGuard.new.Goals as goal

pub invariant_of-result : goal.invariant_of-result
invariant_of-result c = (
  c.in_ok-none.ensures.table,
  c.in_ok-none.ensures.none,
  subst (λ (b : BoundFormula). AreOpen (tree_of b.formula) b.bound c.in_ok-none.none.columns) (sym c.in_ok-guard.ensures.ok) c.in_ok-none.ensures.columns,
)
