use Rattle.monitorable_guard.proofs.Vocabulary.{All, Contains, ◌↔◌, IsTrue, sym, subst, ◌∙◌, tree_of, AreFreeVariables}
use Rattle.monitorable_guard.proofs.ConditionLemmas.{first_decided}
use Rattle.monitorable_guard.proofs.conditions.first_fits.Goals as goal

pub returns : goal.returns
returns c =
    let same = c.as_slice-2.ensures ∙ c.columns.ensures.columns in
    first_decided (tree_of c.args.formula.now) c.args.tables.now c.in-Some.first.now c.as_slice.result.now c.are_same.result c.in-Some.ensures.value
    (subst (AreFreeVariables (tree_of c.args.formula.now)) (sym c.as_slice.ensures) c.in_ok-free.ensures)
    (subst (λ l. IsTrue c.are_same.result ↔ (All (Contains l) c.as_slice.result.now × All (Contains c.as_slice.result.now) l)) same c.are_same.ensures)
