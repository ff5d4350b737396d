-- The table that the program keeps.
use Rattle.definitions.specs.declared.tables.Meant.{Meant}
use Rattle.definitions.specs.declared.tables.Table.{Table}
use Rattle.definitions.specs.meaning.UnfoldedFormulas.{Unfolding}
use Rattle.enf_data.specs.declared.events.NameId.{NameId}
use Rattle.enf_formula.specs.machine.FormulaViews.{tree_of}
use Rattle.std.specs.Option.{option_map}
use Rattle.std.specs.Prelude.{◌-◌, nat_lt, cond, Option, None, slice_get}

-- what a name says
abbrev pub meant_of : Meant → Unfolding
meant_of meant = record { params = meant.params; formula = tree_of meant.formula }

-- what each name says: those from the first on are defined, as many as there are
abbrev pub table_of : Table → NameId → Option Unfolding
table_of table name = cond (nat_lt name.0 table.first) None
    (option_map meant_of (slice_get table.meanings (name.0 - table.first)))
