use Rattle.count_guard.proofs.Vocabulary.{List, [], ◌∷◌, ◌++◌, ap, ◌∙◌, VarId}
use Rattle.count_guard.proofs.NumberedVariables.{numbered_more}
use Rattle.count_guard.proofs.copying.numbered.Goals as goal

pub loop-number-preserved : goal.loop-number-preserved
loop-number-preserved c =
    c.in_ok-push.ensures.items ∙ ap (λ (xs : List VarId). xs ++ record { 0 = c.loop-number.number } ∷ []) c.loop-number.invariant
    ∙ numbered_more c.args.first c.loop-number.number c.loop-number.auto.number
