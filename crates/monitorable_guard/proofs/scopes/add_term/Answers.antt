use Rattle.monitorable_guard.proofs.Vocabulary.{◌≡◌, ◌∙◌, sym, ap, IfOk-weaker, Var, VarId, adds_same}
use Rattle.monitorable_guard.proofs.scopes.add_term.Goals as goal

one_variable : (x y : VarId) → Var x ≡ Var y → y ≡ x
one_variable x y e = cc

pub returns-in-Var : goal.returns-in-Var
returns-in-Var c =
    IfOk-weaker c.add_new.result _ _ (λ _ a. adds_same (λ y is. c.in-Var.is ∙ ap Var (sym is)) (λ y is. one_variable c.in-Var.x y (sym c.in-Var.is ∙ is)) a) c.add_new.ensures
