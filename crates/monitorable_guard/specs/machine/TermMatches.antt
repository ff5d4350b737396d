-- Valuations under which terms have given values.
use Rattle.enf_data.specs.declared.terms.Term.{Term}
use Rattle.enf_data.specs.declared.terms.VarId.{VarId}
use Rattle.enf_data.specs.declared.values.Value.{Value}
use Rattle.enf_data.specs.meaning.Valuations.{Valuation, value_at, value_of_term, values_of_terms}
use Rattle.std.specs.Prelude.{◌≡◌, Some, List}

-- w has each value that v has
abbrev pub Extends : Valuation → Valuation → Type 0
Extends v w = (x : VarId) (value : Value) → value_at v x ≡ Some value → value_at w x ≡ Some value

-- w has the values of v, and no more than it takes for the term to have this value
pub record IsLeastFor (term : Term) (value : Value) (v w : Valuation) : Type 0 where
  pub extends : Extends v w
  pub has : value_of_term w term ≡ Some value
  pub least : (u : Valuation) → Extends v u → value_of_term u term ≡ Some value → Extends w u

-- w has the values of v, and no more than it takes for the terms to have these values
pub record IsLeastMatch (terms : List Term) (values : List Value) (v w : Valuation) : Type 0 where
  pub extends : Extends v w
  pub has : values_of_terms w terms ≡ Some values
  pub least : (u : Valuation) → Extends v u → values_of_terms u terms ≡ Some values → Extends w u

-- no valuation that has the values of v does
abbrev pub HasNoMatchFor : Term → Value → Valuation → Type 0
HasNoMatchFor term value v = (u : Valuation) → Extends v u → value_of_term u term ≡ Some value → ⊥

abbrev pub HasNoMatch : List Term → List Value → Valuation → Type 0
HasNoMatch terms values v = (u : Valuation) → Extends v u → values_of_terms u terms ≡ Some values → ⊥
