use Rattle.monitorable_guard.proofs.Vocabulary.{inl, inr, ⊎_elim, subst, [], ◌∷◌, Contains, Var, VarId, only_variable, variable_is, only_item as alone, variable_x, guard_case_y, none_in_nil}
use Rattle.monitorable_guard.proofs.Vocabulary.{first_or_later, here, later}
use Rattle.monitorable_guard.proofs.CaseLemmas.{below, x_is_not_y}
use Rattle.monitorable_guard.proofs.worked_cases.safe.Goals as goal

pub returns-clause-constant : goal.returns-clause-constant
returns-clause-constant c = inr (inl (none_in_nil _))

pub returns-clause-turned : goal.returns-clause-turned
returns-clause-turned c = inr (inr (none_in_nil _))

pub returns-clause-copied : goal.returns-clause-copied
returns-clause-copied c = inr (inl (λ there. x_is_not_y (alone variable_x guard_case_y there), here variable_x []))

pub returns-clause-compared : goal.returns-clause-compared
returns-clause-compared c = λ z free. subst (Contains (variable_x ∷ [])) (below z free) (here variable_x [])

pub returns-clause-left_first : goal.returns-clause-left_first
returns-clause-left_first c = (tt, λ z free. inr (subst (λ v. Contains (Var variable_x ∷ []) (Var v)) (below z free) (here (Var variable_x) [])))

pub returns-clause-denied_right : goal.returns-clause-denied_right
returns-clause-denied_right c = (tt, (λ z free. inr free, tt))

pub returns-clause-same_variables : goal.returns-clause-same_variables
returns-clause-same_variables c = (tt, tt, λ z absent. (λ f. f, λ f. f))

pub returns-clause-each : goal.returns-clause-each
returns-clause-each c = (
  λ z free absent. absurd (absent (subst (Contains (variable_x ∷ [])) (only_variable variable_x z (⊎_elim (λ f. f) (λ f. f) free)) (here variable_x []))),
  λ z
      there. subst (λ v. Contains (Var variable_x ∷ []) (Var v)) (alone variable_x z there) (here (Var variable_x) []),
  tt,
  tt,
  λ z free. inr free,
)

pub returns-clause-none : goal.returns-clause-none
returns-clause-none c = (λ z free absent. absurd (absent (subst (Contains (variable_x ∷ [])) (only_variable variable_x z free) (here variable_x []))), tt)

pub returns-clause-nested : goal.returns-clause-nested
returns-clause-nested c = (
  λ z free absent. absurd (absent (⊎_elim both (λ f. later z variable_x (guard_case_y ∷ [])
      (subst (Contains (guard_case_y ∷ [])) (only_variable guard_case_y z f) (here guard_case_y []))) free)),
  λ z there.
      ⊎_elim (λ same. subst (λ v. Contains (Var variable_x ∷ Var guard_case_y ∷ []) (Var v)) same (here (Var variable_x) (Var guard_case_y ∷ [])))
      (λ behind. subst (λ v. Contains (Var variable_x ∷ Var guard_case_y ∷ []) (Var v)) (alone guard_case_y z behind)
      (later (Var guard_case_y) (Var variable_x) (Var guard_case_y ∷ []) (here (Var guard_case_y) []))) (first_or_later z variable_x (guard_case_y ∷ []) there),
  tt,
  tt,
  λ z free. inr
      (subst (λ v. Contains (Var variable_x ∷ Var guard_case_y ∷ []) (Var v)) (only_variable guard_case_y z free)
      (later (Var guard_case_y) (Var variable_x) (Var guard_case_y ∷ []) (here (Var guard_case_y) []))),
)
  where
    both : {z : VarId} → Contains (Var variable_x ∷ Var guard_case_y ∷ []) (Var z) → Contains (variable_x ∷ guard_case_y ∷ []) z
    both {z} there = ⊎_elim (λ same. subst (Contains (variable_x ∷ guard_case_y ∷ [])) (variable_is variable_x z same) (here variable_x (guard_case_y ∷ [])))
        (λ behind. later z variable_x (guard_case_y ∷ []) (subst (Contains (guard_case_y ∷ [])) (only_variable guard_case_y z behind) (here guard_case_y [])))
        (first_or_later (Var z) (Var variable_x) (Var guard_case_y ∷ []) there)

pub returns-clause-since : goal.returns-clause-since
returns-clause-since c = (
  tt,
  λ z free. inr (subst (λ v. Contains (Var variable_x ∷ []) (Var v)) (below z free) (here (Var variable_x) [])),
  λ z free. inr
      (subst (λ v. Contains (Var variable_x ∷ []) (Var v)) (below z free) (here (Var variable_x) [])),
)

pub returns-clause-historically_denied : goal.returns-clause-historically_denied
returns-clause-historically_denied c = (λ z free. subst (Contains (variable_x ∷ [])) (only_variable variable_x z free) (here variable_x []), tt)

pub returns-clause-historically_condition : goal.returns-clause-historically_condition
returns-clause-historically_condition c = (
  λ z free. subst (Contains (variable_x ∷ [])) (only_variable variable_x z free) (here variable_x []),
  λ z free. subst
      (Contains (variable_x ∷ [])) (only_variable variable_x z free) (here variable_x []),
  tt,
  λ z free. inr free,
  tt,
)
