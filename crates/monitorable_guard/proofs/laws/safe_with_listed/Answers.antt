use Rattle.monitorable_guard.proofs.Vocabulary.{⊎_elim, inr, None, Contains, NoneBound, BoundOrFreeIn}
use Rattle.monitorable_guard.proofs.DecisionLemmas.{safe_by_itself}
use Rattle.monitorable_guard.proofs.SafetyLemmas.{safe_same}
use Rattle.monitorable_guard.proofs.laws.safe_with_listed.Goals as goal

pub returns-clause-none : goal.returns-clause-none
returns-clause-none c = λ f safe. (safe_by_itself f).1 safe

pub returns-clause-free : goal.returns-clause-free
returns-clause-free c = λ f g columns same safe.
    safe_same None f (BoundOrFreeIn NoneBound g) (Contains columns) (λ x. (λ b. ⊎_elim (λ none. absurd none) (λ free. (same x).1 free) b, λ there. inr ((same x).0 there))) safe
