-- Tables: finite sets of valuations of the same variables, kept as rows.
use Rattle.enf_data.specs.declared.terms.VarId.{VarId}
use Rattle.enf_data.specs.declared.values.Value.{Value}
use Rattle.enf_data.specs.machine.Codes.{variable_code, value_code}
use Rattle.enf_data.specs.meaning.Membership.{HasNoRepeats}
use Rattle.enf_data.specs.meaning.Valuations.{Valuation, value_at}
use Rattle.enf_data.specs.meaning.Values.{row_cmp}
use Rattle.std.specs.Coded.{Coded, coded_list, coded×, code_by}
use Rattle.std.specs.List.{list_any}
use Rattle.std.specs.List.Sorted.{IsStrictlySortedBy}
use Rattle.std.specs.Prelude.{List, refl, ◌≡◌, length, All, ◌==◌, [], ◌∷◌, Option, None, Some}
use Rattle.std.specs.Prelude.{if◌then◌else◌, Contains, Bool, filter, not}

-- columns, and rows with a value for each column
pub record Relation : Type 0 where
  pub columns : List VarId
  pub rows : List (List Value)

-- stored as the pair of both
abbrev pub relation_code : Coded Relation
relation_code = code_by (List VarId
    × List (List Value)) (coded× (coded_list variable_code) (coded_list (coded_list value_code))) (λ t. (
      t.columns,
      t.rows,
    )) (λ p. record { columns = p.0; rows = p.1 }) (λ _. refl)

-- the columns are distinct, each row is as long as they, and the rows strictly rise
pub record IsTable (t : Relation) : Type 0 where
  pub distinct : HasNoRepeats t.columns
  pub fits : All (λ row. length row ≡ length t.columns) t.rows
  pub rising : IsStrictlySortedBy row_cmp t.rows

-- the value that a row has for a variable: that at the variable's column
abbrev pub row_cell : List VarId → List Value → VarId → Option Value
row_cell [] row x = None
row_cell (column ∷ columns) [] x = None
row_cell (column ∷ columns) (value ∷ row) x = if column.0 == x.0 then Some value else row_cell columns row x

-- the valuation has for each column the row's value
abbrev pub AgreesWithRow : Valuation → List VarId → List Value → Type 0
AgreesWithRow v columns row = (x : VarId) → Contains columns x → value_at v x ≡ row_cell columns row x

-- the valuation is in the table: it has the values of one of its rows, whatever else it binds
abbrev pub HasValuation : Relation → Valuation → Type 0
HasValuation t v = (row : List Value) × Contains t.rows row × AgreesWithRow v t.columns row

-- whether a variable is among some
abbrev pub is_column : List VarId → VarId → Bool
is_column columns x = list_any (λ column. column.0 == x.0) columns

-- the columns that are among others, and those that are not, in order
abbrev pub columns_shared : List VarId → List VarId → List VarId
columns_shared columns others = filter (is_column columns) others

abbrev pub columns_unshared : List VarId → List VarId → List VarId
columns_unshared columns others = filter (λ x. not (is_column columns x)) others

-- two lists have the same variables, in any order
abbrev pub AreSameColumns : List VarId → List VarId → Type 0
AreSameColumns columns others = ((x : VarId) → Contains columns x → Contains others x) × ((x : VarId)
    → Contains others x → Contains columns x)

-- two valuations have the same values of these variables
abbrev pub AgreeOnColumns : List VarId → Valuation → Valuation → Type 0
AgreeOnColumns columns v w = (x : VarId) → Contains columns x → value_at v x ≡ value_at w x

-- of each column that v binds, w has the same value
abbrev pub IsBoundSame : Option Value → Option Value → Type 0
IsBoundSame None other = Unit {0}
IsBoundSame (Some value) other = other ≡ Some value

abbrev pub AgreesWhereBound : List VarId → Valuation → Valuation → Type 0
AgreesWhereBound columns v w = (x : VarId) → Contains columns x → IsBoundSame (value_at v x) (value_at w x)
