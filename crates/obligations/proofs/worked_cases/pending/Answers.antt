use Rattle.obligations.proofs.Vocabulary.{rules, [], ◌∷◌, refl, inr, event_p, no_values, begun_at_5, waiting, Instance, cause_literal}
use Rattle.obligations.proofs.worked_cases.pending.Goals as goal

-- begun at the second position
abbrev second : Instance
second = record { rule = 0; node = 0; valuation = no_values; origin = 1; low = 5; high = 15 }

pub returns-clause-begun : goal.returns-clause-begun
returns-clause-begun c =
    ([], refl, ([], begun_at_5 0 5 15 ∷ [], refl, (begun_at_5 0 5 15 ∷ [], [], inr ((cause_literal event_p 1, [], search rules), refl), refl, refl), refl))

pub returns-clause-kept_before_begun : goal.returns-clause-kept_before_begun
returns-clause-kept_before_begun c = (
  waiting 0 1 11 ∷ [],
  (
    [],
    refl,
    (
      [],
      waiting 0 1 11 ∷ [],
      refl,
      (waiting 0 1 11 ∷ [], [], inr ((cause_literal event_p 1, [], search rules), refl), refl, refl),
      refl,
    ),
  ),
  (
    waiting 0 1 11 ∷ [],
    second ∷ [],
    (waiting 0 1 11 ∷ [], [], inr ((λ inside. (cause_literal event_p 1, [], search rules)), refl), refl, refl),
    (second ∷ [], [], inr ((cause_literal event_p 1, [], search rules), refl), refl, refl),
    refl,
  ),
)
