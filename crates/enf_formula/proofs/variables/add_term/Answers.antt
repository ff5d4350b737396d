use Rattle.enf_formula.proofs.Vocabulary.{◌≡◌, ◌∙◌, sym, ap, on_ok_weaker, Var, VarId}
use Rattle.enf_formula.proofs.Gathering.{adds_same}
use Rattle.enf_formula.proofs.variables.add_term.Goals as goal

one_variable : (x y : VarId) → Var x ≡ Var y → y ≡ x
one_variable x y e = cc

pub returns-in-Var : goal.returns-in-Var
returns-in-Var c =
    on_ok_weaker c.add.result (λ a. adds_same (λ y is. c.in-Var.is ∙ ap Var (sym is)) (λ y is. one_variable c.in-Var.x y (sym c.in-Var.is ∙ is)) a) c.add.ensures
