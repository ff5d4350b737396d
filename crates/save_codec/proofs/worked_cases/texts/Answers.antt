use Rattle.save_codec.proofs.Vocabulary.{◌∷◌, [], arith, refl, decimal_digit, variable_cmp, save_case_a}
use Rattle.std.specs.FinMap as finite
use Rattle.save_codec.proofs.worked_cases.texts.Goals as goal

pub returns-clause-beginning : goal.returns-clause-beginning
returns-clause-beginning c = rw (decimal_digit 0 (omega arith)) refl

pub returns-clause-going : goal.returns-clause-going
returns-clause-going c = rw (
  finite.entries-from_sorted variable_cmp ((record { 0 = 0 }, save_case_a) ∷ []) tt,
  decimal_digit 0 (omega arith),
  decimal_digit 1 (omega arith),
  decimal_digit
      2 (omega arith),
  decimal_digit 3 (omega arith),
  decimal_digit 4 (omega arith),
  decimal_digit 5 (omega arith),
  decimal_digit 6 (omega arith),
  decimal_digit 7 (omega arith),
  decimal_digit
      9 (omega arith),
) refl
