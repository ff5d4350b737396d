-- Valuations that are built from values that stand elsewhere.
use Rattle.enf_data.specs.declared.terms.VarId.{VarId}
use Rattle.enf_data.specs.declared.values.Value.{Value}
use Rattle.enf_data.specs.meaning.Valuations.{Valuation, value_at, no_values}
use Rattle.std.specs.Borrow.{Bor}
use Rattle.std.specs.List.{fold}
use Rattle.std.specs.Prelude.{ℕ, suc, cond, nat_lt, List, [], ◌∷◌, Option, None, Some}
use Rattle.valuations.specs.declared.frame.Frame.{Frame, Whole, Part', Row'}
use Rattle.std.specs.FinMap as map

-- v with one variable bound, or bound anew
abbrev pub with_value : Valuation → VarId → Value → Valuation
with_value v x value = map.insert v x value

-- how many bindings at the front are of lower variables
abbrev pub binding_place : VarId → List (VarId × Value) → ℕ
binding_place x [] = 0
binding_place x (binding ∷ rest) = cond (nat_lt binding.0.0 x.0) (suc (binding_place x rest)) 0

-- v, and bindings one after another: a later one of a variable hides an earlier one
abbrev pub bound_by : Valuation → List (VarId × Bor Value) → Valuation
bound_by v bindings = fold (λ w binding. with_value w binding.0 binding.1.now) v bindings

-- v, and the variable bound where v had no value for it
abbrev pub with_new : Option Value → Valuation → VarId → Value → Valuation
with_new None v x value = with_value v x value
with_new (Some known) v x value = v

-- v, and each variable that it does not bind bound to the value at its place
abbrev pub filled_from_row : Valuation → List VarId → List Value → Valuation
filled_from_row v [] row = v
filled_from_row v (x ∷ xs) [] = v
filled_from_row v (x ∷ xs) (value ∷ row) = filled_from_row (with_new (value_at v x) v x value) xs row

-- v, and the variable bound where there is a value
abbrev pub with_found : Valuation → VarId → Option Value → Valuation
with_found v x None = v
with_found v x (Some value) = with_value v x value

-- what v binds of these variables
abbrev pub valuation_part : Valuation → List VarId → Valuation
valuation_part v [] = no_values
valuation_part v (x ∷ xs) = with_found (valuation_part v xs) x (value_at v x)

-- the valuation that a frame stands for
abbrev pub bound_in : Frame → Valuation
bound_in (Whole v) = v.now
bound_in (Part' p below variables) = valuation_part (bound_in below) variables.now
bound_in (Row' p below columns row) = filled_from_row (bound_in below) columns.now row.now
