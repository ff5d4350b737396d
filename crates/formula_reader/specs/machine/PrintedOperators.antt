-- How the printer keeps operands and operators.
use Rattle.enf_data.specs.declared.intervals.Interval.{Interval}
use Rattle.std.specs.Option.{option_copied}
use Rattle.std.specs.Prelude.{ℕ, List, Option, None, Some, [], ◌++◌}
use Rattle.enf_formula.specs.meaning.Satisfaction.{Formula}
use Rattle.signature.specs.declared.entries.NameEntry.{NameEntry}
use Rattle.formula_reader.specs.declared.printing.OperatorWord.{OperatorWord}
use Rattle.formula_reader.specs.meaning.RuleText.{formula_stands_alone, enclosed_text, formula_text, interval_text}

-- an operand
abbrev pub operand_text : List NameEntry → (vars : List (List ℕ)) → Formula → List ℕ
operand_text entries vars f = enclosed_text (formula_stands_alone f) (formula_text entries vars f)

-- the interval, where there is one
abbrev pub timed_by : Option Interval → List ℕ
timed_by None = []
timed_by (Some interval) = interval_text interval

-- the word of an operator, with its interval
abbrev pub operator_text : OperatorWord → List ℕ
operator_text operator = operator.word.now ++ timed_by (option_copied operator.interval)
