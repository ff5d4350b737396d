use Rattle.monitorable_guard.proofs.Vocabulary.{inl, ⊎_elim, [], ◌∷◌, refl, sym, Var, only_variable, variable_x, none_in_nil, here, later, guard_case_y}
use Rattle.monitorable_guard.proofs.CaseLemmas.{x_is_not_y}
use Rattle.monitorable_guard.proofs.worked_cases.not_safe.Goals as goal

pub returns-clause-open_denial : goal.returns-clause-open_denial
returns-clause-open_denial c = λ s. none_in_nil variable_x (s.0 variable_x (here (Var variable_x) []))

pub returns-clause-open_equality : goal.returns-clause-open_equality
returns-clause-open_equality c = λ s. ⊎_elim (λ within. none_in_nil variable_x (within variable_x (inl refl)))
    (λ opens. ⊎_elim (λ a. none_in_nil guard_case_y a.1) (λ a. none_in_nil variable_x a.1) opens) s

pub returns-clause-itself : goal.returns-clause-itself
returns-clause-itself c = λ s. ⊎_elim (λ within. none_in_nil variable_x (within variable_x (inl refl))) (λ opens. ⊎_elim (λ a. none_in_nil variable_x a.1) (λ a. none_in_nil variable_x a.1) opens) s

pub returns-clause-open_comparison : goal.returns-clause-open_comparison
returns-clause-open_comparison c = λ s. none_in_nil variable_x (s variable_x (inl refl))

pub returns-clause-right_first : goal.returns-clause-right_first
returns-clause-right_first c = λ s. none_in_nil variable_x (s.0 variable_x (inl refl))

pub returns-clause-other_variables : goal.returns-clause-other_variables
returns-clause-other_variables c = λ s. x_is_not_y (sym (only_variable guard_case_y variable_x ((s.2 variable_x (none_in_nil variable_x)).0 (here (Var variable_x) []))))

pub returns-clause-open_condition : goal.returns-clause-open_condition
returns-clause-open_condition c = λ s. none_in_nil variable_x (s.1 variable_x (here (Var variable_x) []))

pub returns-clause-each_value : goal.returns-clause-each_value
returns-clause-each_value c = λ s. s

pub returns-clause-range_too_small : goal.returns-clause-range_too_small
returns-clause-range_too_small c = λ s. x_is_not_y (only_variable variable_x guard_case_y (s.1 guard_case_y (later guard_case_y variable_x (guard_case_y ∷ []) (here guard_case_y []))))

pub returns-clause-once_by_itself : goal.returns-clause-once_by_itself
returns-clause-once_by_itself c = λ s. s variable_x (inl refl)

pub returns-clause-open_history : goal.returns-clause-open_history
returns-clause-open_history c = λ s. none_in_nil variable_x (s.0 variable_x (here (Var variable_x) []))

pub returns-clause-history_by_itself : goal.returns-clause-history_by_itself
returns-clause-history_by_itself c = λ s. s.1 variable_x (here (Var variable_x) [])

pub returns-clause-since_left : goal.returns-clause-since_left
returns-clause-since_left c = λ s. ⊎_elim (λ b. b) (λ free. x_is_not_y (only_variable variable_x guard_case_y free)) (s.1 guard_case_y (here (Var guard_case_y) []))

pub returns-clause-future : goal.returns-clause-future
returns-clause-future c = λ s. s
