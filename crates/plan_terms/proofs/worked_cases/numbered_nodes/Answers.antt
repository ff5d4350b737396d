use Rattle.plan_terms.proofs.Vocabulary.{◌≡◌, ℕ, [], arith, refl, wait, name_q, CausePlan}
use Rattle.plan_terms.proofs.worked_cases.numbered_nodes.Goals as goal

pub returns-clause-not_numbered : goal.returns-clause-not_numbered
returns-clause-not_numbered c = λ numbered. let same : ◌≡◌ {A = ℕ} 1 2 = numbered 2 (CausePlan 1 5 name_q []) refl in omega arith

pub returns-clause-not_from_0 : goal.returns-clause-not_from_0
returns-clause-not_from_0 c = λ numbered. let same : ◌≡◌ {A = ℕ} 1 0 = numbered 0 (wait 1) refl in omega arith
