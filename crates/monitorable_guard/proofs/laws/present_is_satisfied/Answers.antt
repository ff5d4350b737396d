use Rattle.monitorable_guard.proofs.Vocabulary.{refl, step_at}
use Rattle.monitorable_guard.proofs.PresentLemmas.{now_is_sat}
use Rattle.monitorable_guard.proofs.laws.present_is_satisfied.Goals as goal

pub returns : goal.returns
returns c = λ trace i tables v f past stand binds. now_is_sat trace i (step_at trace i).events refl (λ w g. c.is_classical.ensures trace i w g) tables v f past stand binds
