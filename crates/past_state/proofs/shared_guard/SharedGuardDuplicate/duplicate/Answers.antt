use Rattle.past_state.proofs.Vocabulary.{◌∙◌, ap, sym, subst, AreOpen, BoundFormula, IsTable, Relation, tree_of}
use Rattle.past_state.proofs.shared_guard.SharedGuardDuplicate.duplicate.Goals as goal

pub invariant_of-result : goal.invariant_of-result
invariant_of-result c = (
  subst IsTable (sym c.in_ok-none.ensures) c.self.invariant.0,
  ap (λ (t : Relation). t.rows) c.in_ok-none.ensures ∙ c.self.invariant.1,
  subst (λ (b : BoundFormula). AreOpen (tree_of b.formula) b.bound c.in_ok-none.none.columns) (sym c.in_ok-guard.ensures.cases)
      (subst (λ (t : Relation). AreOpen (tree_of c.self.inside.guard.value.formula) c.self.inside.guard.value.bound t.columns) (sym c.in_ok-none.ensures) c.self.invariant.2),
)
