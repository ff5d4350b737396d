use Rattle.obligations.proofs.Vocabulary.{⊎_elim, subst, sym, tree_of, plan_of, IsPatient}
use Rattle.obligations.proofs.PatientPlanLemmas.{patient_rows, patient_test}
use Rattle.obligations.proofs.patient_plans.+is_patient.Goals as goal

pub returns-in-TestOr : goal.returns-in-TestOr
returns-in-TestOr t c patient =
    let body = plan_of c.in-TestOr.body.value in
    let inner : IsPatient body = subst (λ p. IsPatient (plan_of p)) c.deref-in-TestOr.ensures (c.is_patient-in-TestOr.ensures patient) in
    ⊎_elim
    (λ k. subst (λ p. IsPatient (plan_of p)) (sym k.3) (patient_test k.0 k.1 (tree_of k.2.value) body inner))
    (λ k. subst (λ p. IsPatient (plan_of p)) (sym k.4) (patient_rows k.0 k.2 k.1 (tree_of k.3.value) body inner))
    c.in-TestOr.is
