use Rattle.past_state.proofs.Vocabulary.{◌∙◌, sym, subst, tree_of, AreFreeVariables}
use Rattle.past_state.proofs.FirstMemoryLemmas.{columns_same}
use Rattle.past_state.proofs.newcomers.guard_of_now.Goals as goal

pub returns-in_ok-new-in-Some-clause-columns : goal.returns-in_ok-new-in-Some-clause-columns
returns-in_ok-new-in-Some-clause-columns c =
    subst (AreFreeVariables (tree_of c.args.formula.now)) (columns_same c.in_ok-free_vars.field-0 c.args.columns.now (sym c.ne-else-not-is_of_now.ensures ∙ c.if-ne.false)) c.in_ok-free_vars.ensures
