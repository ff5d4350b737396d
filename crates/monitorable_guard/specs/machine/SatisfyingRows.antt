-- The rows under which a formula is satisfied at a position of a trace.
use Rattle.enf_data.specs.declared.steps.Step.{Step}
use Rattle.enf_data.specs.declared.terms.VarId.{VarId}
use Rattle.enf_data.specs.declared.values.Value.{Value}
use Rattle.enf_data.specs.meaning.Membership.{HasNoRepeats}
use Rattle.enf_data.specs.meaning.Valuations.{Valuation, with_values}
use Rattle.enf_data.specs.meaning.Values.{row_cmp}
use Rattle.std.specs.List.Sorted.{IsStrictlySortedBy}
use Rattle.std.specs.Prelude.{◌≡◌, ◌↔◌, ℕ, List, length, All, Contains}
use Rattle.enf_formula.specs.meaning.Satisfaction.{Formula, IsFree, Sat}

-- just the lists of values of the variables under which the formula is satisfied there, in rising order
pub record AreRowsAt (trace : List Step) (i : ℕ) (v : Valuation) (xs : List VarId) (f : Formula)
    (rows : List (List Value)) : Type 0 where
  pub fit : All (λ row. length row ≡ length xs) rows
  pub rise : IsStrictlySortedBy row_cmp rows
  pub are : (row : List Value) → length row ≡ length xs
      → Contains rows row ↔ Sat trace i (with_values xs row v) f

-- distinct variables that are free in the formula and not bound
pub record AreTold (f : Formula) (bound xs : List VarId) : Type 0 where
  pub distinct : HasNoRepeats xs
  pub free : (x : VarId) → Contains xs x → IsFree x f
  pub new : (x : VarId) → Contains xs x → Contains bound x → ⊥
