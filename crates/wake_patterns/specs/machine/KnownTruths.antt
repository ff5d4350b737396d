-- Truths that no step changes: of the constants, and of comparisons whose terms have values.
use Rattle.enf_data.specs.declared.values.Value.{Value}
use Rattle.enf_data.specs.declared.values.Value.TheVariants.{Num}
use Rattle.enf_data.specs.meaning.Valuations.{Valuation, value_of_term}
use Rattle.enf_data.specs.meaning.Values.{value_eq}
use Rattle.std.specs.Prelude.{Bool, true, false, Option, Some, None, ℤ, int_lt, int_le}
use Rattle.enf_formula.specs.meaning.Satisfaction.{Formula, True, False, Equal, Less, AtMost}

-- both values are numbers, and the test says yes to them
abbrev pub of_numbers : (ℤ → ℤ → Bool) → Value → Value → Bool
of_numbers test (Num x) (Num y) = test x y
of_numbers test a b = false

-- what a test says of two values, where both are known
abbrev pub of_known : (Value → Value → Bool) → Option Value → Option Value → Option Bool
of_known test None b = None
of_known test (Some a) None = None
of_known test (Some a) (Some b) = Some (test a b)

-- the truth of a constant, and of a comparison whose terms have values under v
abbrev pub known_truth : Valuation → Formula → Option Bool
known_truth v (True place) = Some true
known_truth v (False place) = Some false
known_truth v (Equal place s t) = of_known value_eq (value_of_term v s) (value_of_term v t)
known_truth v (Less place s t) = of_known (of_numbers int_lt) (value_of_term v s) (value_of_term v t)
known_truth v (AtMost place s t) = of_known (of_numbers int_le) (value_of_term v s) (value_of_term v t)
known_truth v f = None
