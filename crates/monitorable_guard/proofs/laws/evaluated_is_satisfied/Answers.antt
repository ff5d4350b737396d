use Rattle.monitorable_guard.proofs.Vocabulary.{None, Contains, ⊎_elim, among_or_not}
use Rattle.monitorable_guard.proofs.EvaluationLemmas.{bound_as}
use Rattle.monitorable_guard.proofs.SafetyLaws.{safe_past}
use Rattle.monitorable_guard.proofs.laws.evaluated_is_satisfied.Goals as goal

pub returns : goal.returns
returns c = λ trace i tables f bound v t safe binds stand opens holds w agree columns.
    let now = c.present_is_satisfied.ensures trace i tables w f (safe_past None f (Contains bound) safe) stand
    (λ x free. ⊎_elim (λ there. bound_as v w x (agree x there) (binds x there)) (λ absent. columns x ((opens.exact x).1 (free, absent))) (among_or_not bound x)) in
    let told = holds w agree columns in
    (λ has. now.0 (told.0 has), λ sat. told.1 (now.1 sat))
