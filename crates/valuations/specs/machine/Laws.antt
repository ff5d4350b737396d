-- The statements of the laws of tables.
use Rattle.enf_data.specs.declared.values.Value.{Value}
use Rattle.enf_data.specs.meaning.Valuations.{Valuation, BindsColumns, valuation_of}
use Rattle.std.specs.Prelude.{◌≡◌, ◌↔◌, List, length, Contains}
use Rattle.valuations.specs.machine.Tables.{Relation, IsTable, HasValuation}

-- a valuation in a table binds its columns
abbrev pub InTableBinds : Type 0
InTableBinds = (t : Relation) (v : Valuation) → IsTable t → HasValuation t v → BindsColumns v t.columns

-- a row as long as the columns is a row of the table exactly where the valuation that it stands for is in the table
abbrev pub RowsAreValuations : Type 0
RowsAreValuations = (t : Relation) (row : List Value) → IsTable t → length row ≡ length t.columns
    → Contains t.rows row ↔ HasValuation t (valuation_of t.columns row)

-- tables of the same columns that have the same valuations are the same
abbrev pub SameValuationsSameTable : Type 0
SameValuationsSameTable = (s t : Relation) → IsTable s → IsTable t → s.columns ≡ t.columns
    → ((v : Valuation) → HasValuation s v ↔ HasValuation t v) → s ≡ t
