use Rattle.monitorable_guard.proofs.Vocabulary.{List, not, sym, ap, subst, ◌∙◌, take_all, IsStrictlySortedBy-filter, Formula, AreFreeVariables, tree_of, variable_cmp, VarId, in_not_shared}
use Rattle.monitorable_guard.proofs.Vocabulary.{not_shared_in, is_column, columns_unshared, AreOpen}
use Rattle.monitorable_guard.proofs.operators.open_beside.Goals as goal

beside : (f : Formula) (bound free : List VarId) → AreFreeVariables f free → AreOpen f bound (columns_unshared bound free)
beside f bound free are = record {
  rising = IsStrictlySortedBy-filter variable_cmp (λ x. not (is_column bound x)) free are.rising;
  exact = λ x. (
    λ there. let parts = not_shared_in bound free x there in ((are.exact x).0 parts.1, parts.0),
    λ both. in_not_shared bound free x both.1 ((are.exact x).1 both.0),
  );
}

pub returns : goal.returns
returns c =
    let all = take_all c.loop-variable.variable-index c.as_slice-variable-items.result.now c.loop-variable-test.false ∙ c.as_slice-variable-items.ensures in
    subst (AreOpen (tree_of c.args.formula.now) c.args.bound.now) (sym (c.from_vec.ensures ∙ c.loop-variable.invariant ∙ ap (columns_unshared c.args.bound.now) all))
    (beside (tree_of c.args.formula.now) c.args.bound.now _ c.in_ok-free.ensures)
