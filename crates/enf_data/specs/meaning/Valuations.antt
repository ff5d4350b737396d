-- Valuations: finite maps from variables to values. Each map has one form, so that valuations that answer alike are
-- equal.
use Rattle.enf_data.specs.declared.terms.Term.{Term}
use Rattle.enf_data.specs.declared.terms.Term.TheVariants.{Var, Const}
use Rattle.enf_data.specs.declared.terms.VarId.{VarId}
use Rattle.enf_data.specs.declared.values.Value.{Value}
use Rattle.std.specs.Ordering.{nat_cmp}
use Rattle.std.specs.Prelude.{Option, List, [], ◌∷◌, Some, None, IsSome, Contains}
use Rattle.std.specs.declared.cmp.Ordering.{Ordering}
use Rattle.std.specs.FinMap as map

-- variables go by their numbers
abbrev pub variable_cmp : VarId → VarId → Ordering
variable_cmp x y = nat_cmp x.0 y.0

abbrev pub Valuation : Type 0
Valuation = map.FinMap variable_cmp Value

-- nothing is bound
abbrev pub no_values : Valuation
no_values = map.empty

-- the value of a variable, where it is bound
abbrev pub value_at : Valuation → VarId → Option Value
value_at v x = map.get v x

-- the variables that are bound, each with its value, in rising number
abbrev pub bindings : Valuation → List (VarId × Value)
bindings v = map.entries v

-- v with the variables bound to the values in turn
abbrev pub with_values : List VarId → List Value → Valuation → Valuation
with_values [] values v = v
with_values (x ∷ xs) [] v = v
with_values (x ∷ xs) (value ∷ values) v = with_values xs values (map.insert v x value)

-- the value of a term: that of its variable, or the constant
abbrev pub value_of_term : Valuation → Term → Option Value
value_of_term v (Var x) = value_at v x
value_of_term v (Const value) = Some value

-- a value before a list of values, where both are there
abbrev pub onto_values : Option Value → Option (List Value) → Option (List Value)
onto_values (Some value) (Some values) = Some (value ∷ values)
onto_values value values = None

-- the values of terms, where each has one
abbrev pub values_of_terms : Valuation → List Term → Option (List Value)
values_of_terms v [] = Some []
values_of_terms v (term ∷ terms) = onto_values (value_of_term v term) (values_of_terms v terms)

-- each of the variables has a value
abbrev pub BindsColumns : Valuation → List VarId → Type 0
BindsColumns v columns = (x : VarId) → Contains columns x → IsSome (value_at v x)

-- the valuation that a row stands for: it binds the columns, and nothing else
abbrev pub valuation_of : List VarId → List Value → Valuation
valuation_of columns row = with_values columns row no_values
