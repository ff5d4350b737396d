use Rattle.monitorable_guard.proofs.Vocabulary.{sym}
use Rattle.monitorable_guard.proofs.AgreementLemmas.{now_agrees}
use Rattle.monitorable_guard.proofs.laws.free_variables_decide_now.Goals as goal

pub returns : goal.returns
returns c = λ events tables v w f fit agree. (
  now_agrees events tables f v w fit agree,
  now_agrees events tables f w v fit (λ x free. sym (agree x free)),
)
