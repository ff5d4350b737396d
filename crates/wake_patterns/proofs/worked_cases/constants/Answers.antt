use Rattle.wake_patterns.proofs.Vocabulary.{[], ◌∷◌, Some, ap, get-empty, no_values, value_at-insert, variable_cmp, variable_x, value_one, value_two, of_known, of_numbers, int_lt, if_known, true}
use Rattle.wake_patterns.proofs.Vocabulary.{false, Bool, Option, List, Value, Pattern, patterns_of_both, narrower, patterns_of_one, name_p, name_q}
use Rattle.wake_patterns.proofs.worked_cases.constants.Goals as goal

-- what is waited for where the value of x is this
abbrev below_two : Bool → Option Value → Option (List Pattern)
below_two wanted o = if_known wanted (of_known (of_numbers int_lt) o (Some value_two))

pub returns-clause-holds : goal.returns-clause-holds
returns-clause-holds c = ap (below_two true) (value_at-insert no_values variable_x value_one variable_x)

pub returns-clause-may_not_fail : goal.returns-clause-may_not_fail
returns-clause-may_not_fail c = ap (below_two false) (value_at-insert no_values variable_x value_one variable_x)

pub returns-clause-fails : goal.returns-clause-fails
returns-clause-fails c = ap (below_two false) (value_at-insert no_values variable_x value_two variable_x)

pub returns-clause-not_bound : goal.returns-clause-not_bound
returns-clause-not_bound c = ap (below_two false) (get-empty variable_cmp variable_x)

pub returns-clause-not_bound_holds : goal.returns-clause-not_bound_holds
returns-clause-not_bound_holds c = ap (below_two true) (get-empty variable_cmp variable_x)

pub returns-clause-beside_an_event : goal.returns-clause-beside_an_event
returns-clause-beside_an_event c = ap (λ o. narrower (below_two false o) (patterns_of_one no_values name_p [])) (value_at-insert no_values variable_x value_one variable_x)

pub returns-clause-goal : goal.returns-clause-goal
returns-clause-goal c = ap (λ o. patterns_of_both (below_two false o) (patterns_of_one no_values name_p [])) (value_at-insert no_values variable_x value_two variable_x)

pub returns-clause-never_missed : goal.returns-clause-never_missed
returns-clause-never_missed c = ap (λ o. narrower (below_two true o) (patterns_of_one no_values name_q [])) (value_at-insert no_values variable_x value_one variable_x)
