-- How variables, values and valuations are stored.
use Rattle.enf_data.specs.declared.terms.VarId.{VarId}
use Rattle.enf_data.specs.declared.values.Value.{Value}
use Rattle.enf_data.specs.declared.values.Value.TheVariants.{Num, Text}
use Rattle.enf_data.specs.meaning.Valuations.{Valuation}
use Rattle.std.proofs.Common.{inl, inr}
use Rattle.std.specs.Coded.{Coded, coded_ℕ, code_by, coded_ℤ, coded_list, coded⊎}
use Rattle.std.specs.Prelude.{ℕ, refl, ℤ, ◌⊎◌, List, ◌≡◌}
use Rattle.std.specs.FinMap as map

-- a variable is stored as its number
abbrev pub variable_code : Coded VarId
variable_code = code_by ℕ coded_ℕ (λ x. x.0) (λ n. record { 0 = n }) (λ _. refl)

abbrev pub from_value : Value → ℤ ⊎ List ℕ
from_value (Num number) = inl number
from_value (Text text) = inr text

abbrev pub to_value : ℤ ⊎ List ℕ → Value
to_value (inl number) = Num number
to_value (inr text) = Text text

abbrev pub to_value-from_value : (value : Value) → to_value (from_value value) ≡ value
to_value-from_value (Num number) = refl
to_value-from_value (Text text) = refl

-- a value is stored as a number or a list of bytes
abbrev pub value_code : Coded Value
value_code =
    code_by (ℤ ⊎ List ℕ) (coded⊎ coded_ℤ (coded_list coded_ℕ)) from_value to_value to_value-from_value

-- a valuation is stored as its bindings
abbrev pub valuation_code : Coded Valuation
valuation_code = map.code variable_code value_code
