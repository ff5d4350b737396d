-- Equality of values can be decided.
use Rattle.enf_data.specs.declared.values.Value.{Value}
use Rattle.enf_data.specs.declared.values.Value.TheVariants.{Num, Text}
use Rattle.enf_data.specs.meaning.Values.{value_eq}
use Rattle.std.proofs.Common.{ap}
use Rattle.std.proofs.lemmas.Bool.Decides.{Decides-int_eq}
use Rattle.std.proofs.lemmas.Slice.Eq.{bytes_eq-Decides}
use Rattle.std.specs.Bool.{Decides}
use Rattle.std.specs.Prelude.{◌≡◌}

pub value_eq-Decides : (a b : Value) → Decides (value_eq a b) (a ≡ b)
value_eq-Decides (Num x) (Num y) = (λ h. ap Num ((Decides-int_eq x y).0 h), λ e. (Decides-int_eq x y).1 (cc))
value_eq-Decides (Num x) (Text t) = (λ h. cc, λ e. cc)
value_eq-Decides (Text s) (Num y) = (λ h. cc, λ e. cc)
value_eq-Decides (Text s) (Text t) = (λ h. ap Text ((bytes_eq-Decides s t).0 h), λ e. (bytes_eq-Decides s t).1 (cc))
