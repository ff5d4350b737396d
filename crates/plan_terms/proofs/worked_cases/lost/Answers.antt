use Rattle.plan_terms.proofs.Vocabulary.{[], ◌∷◌, ◌++◌, refl, lit<, lit≤, at_time, event_p, event_q, two_steps}
use Rattle.plan_terms.proofs.OwedCases.{and_then, as_it_is}
use Rattle.plan_terms.proofs.worked_cases.lost.Goals as goal

pub returns-clause-present : goal.returns-clause-present
returns-clause-present c lost = lost two_steps (as_it_is 3) (0, lit< tt, refl)

pub returns-clause-to_come : goal.returns-clause-to_come
returns-clause-to_come c lost =
    lost (two_steps ++ at_time 3 (event_p ∷ []) ∷ []) (and_then 3 (lit≤ tt) event_p) (0, lit< tt, refl)

pub returns-clause-last_moment : goal.returns-clause-last_moment
returns-clause-last_moment c lost =
    lost (two_steps ++ at_time 5 (event_q ∷ []) ∷ []) (and_then 5 (lit≤ tt) event_q)
    (λ none. none (2, lit≤ tt, lit< tt, (lit≤ tt, lit≤ tt), (0, lit< tt, refl), λ k from before. tt))
