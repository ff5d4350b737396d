use Rattle.obligations.proofs.Vocabulary.{false≢true, refl}
use Rattle.obligations.proofs.worked_cases.unmoved_plans.Goals as goal

pub returns-clause-more_rows : goal.returns-clause-more_rows
returns-clause-more_rows c = λ unmoved. false≢true (unmoved.0 refl)

pub returns-clause-more_rows_denied : goal.returns-clause-more_rows_denied
returns-clause-more_rows_denied c = λ unmoved. false≢true (unmoved.0 refl)

pub returns-clause-not_caused_any_more : goal.returns-clause-not_caused_any_more
returns-clause-not_caused_any_more c = λ unmoved. unmoved.0 refl refl

pub returns-clause-test_fails_now : goal.returns-clause-test_fails_now
returns-clause-test_fails_now c = λ unmoved. false≢true (unmoved.0 refl)
