-- The laws of valuations as maps.
use Rattle.enf_data.proofs.Vocabulary.{VarId, Value, variable_cmp, Valuation, value_at, ap, IsTotalOrder, nat_cmp_total, on_total, eq_by_cmp}
use Rattle.std.specs.Prelude.{◌≡◌, cond, Some}
use Rattle.std.specs.FinMap as map

-- a total order, in which only equal variables tie
pub variable_cmp_total : IsTotalOrder variable_cmp
variable_cmp_total = on_total (λ x. x.0) nat_cmp_total

pub variable_cmp_same : map.IsAntisymmetric variable_cmp
variable_cmp_same x y e = ap (λ n. record { 0 = n }) (map.nat_cmp-IsAntisymmetric x.0 y.0 e)

-- valuations with the same value of each variable are the same
pub same_valuation : (v w : Valuation) → ((x : VarId) → value_at v x ≡ value_at w x) → v ≡ w
same_valuation v w h = map.same_map variable_cmp_total variable_cmp_same v w h

-- a variable that is bound has that value, and the others have the values that they had
pub value_at-insert : (v : Valuation) (x : VarId) (value : Value) (y : VarId)
    → value_at (map.insert v x value) y ≡ cond (eq_by_cmp variable_cmp y x) (Some value) (value_at v y)
value_at-insert v x value y = map.get-insert variable_cmp_total v x value y
