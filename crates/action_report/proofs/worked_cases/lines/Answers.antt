use Rattle.action_report.proofs.Vocabulary.{◌∷◌, [], arith, refl, decimal_digit, variable_cmp, nothing_bound, report_case_a}
use Rattle.std.specs.FinMap as finite
use Rattle.action_report.proofs.worked_cases.lines.Goals as goal

pub returns-clause-root : goal.returns-clause-root
returns-clause-root c = rw (nothing_bound, decimal_digit 0 (omega arith), decimal_digit 1 (omega arith)) refl

pub returns-clause-no_argument : goal.returns-clause-no_argument
returns-clause-no_argument c = rw (nothing_bound, decimal_digit 0 (omega arith), decimal_digit 1 (omega arith)) refl

pub returns-clause-bound : goal.returns-clause-bound
returns-clause-bound c = rw (
  finite.entries-from_sorted variable_cmp ((record { 0 = 0 }, report_case_a) ∷ []) tt,
  decimal_digit 0 (omega arith),
  decimal_digit 1 (omega arith),
  decimal_digit 2 (omega arith),
  decimal_digit 9 (omega arith),
) refl
