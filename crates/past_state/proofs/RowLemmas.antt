-- Rows as valuations, and what holds under them.
use Rattle.past_state.proofs.Vocabulary.{◌≡◌, ◌∙◌, List, length, refl, sym, ap, subst, IsSome, HasNoRepeats, Valuation, no_values, variable_cmp, BindsColumns, valuation_of, VarId, Value}
use Rattle.past_state.proofs.Vocabulary.{value_at-with_inside, cell_some, filled_fresh, filled_from_row}
use Rattle.std.specs.FinMap as finite

-- over nothing a row stands for its valuation
pub row_over_nothing : (columns : List VarId) (row : List Value) (v : Valuation) → v ≡ no_values → HasNoRepeats columns → filled_from_row v columns row ≡ valuation_of columns row
row_over_nothing columns row v none distinct =
    ap (λ w. filled_from_row w columns row) none ∙ filled_fresh no_values columns row distinct (λ x there. finite.get-empty variable_cmp x)

pub row_binds : (columns : List VarId) (row : List Value) → HasNoRepeats columns → length row ≡ length columns → BindsColumns (valuation_of columns row) columns
row_binds columns row distinct long x there =
    let found = cell_some columns row x long there in
    subst IsSome (sym (value_at-with_inside columns row no_values x distinct long there ∙ found.1)) refl
