-- The sorts of values, and the columns of an entry.
use Rattle.enf_data.specs.declared.values.Value.{Value}
use Rattle.std.specs.Prelude.{Bool, true, false, List, [], Option, None, Some}
use Rattle.signature.specs.declared.entries.NameEntry.{NameEntry}
use Rattle.signature.specs.declared.entries.Sort.{Sort}
use Rattle.signature.specs.declared.entries.Sort.TheVariants.{Int, Text}
use Rattle.enf_data.specs.declared.values.Value.TheVariants as values

-- the sort of a value
abbrev pub value_sort : Value → Sort
value_sort (values.Num number) = Int
value_sort (values.Text text) = Text

-- whether the value is of the sort
abbrev pub has_sort : Sort → Value → Bool
has_sort Int (values.Num number) = true
has_sort Text (values.Text text) = true
has_sort sort value = false

-- the sorts of an entry's columns
abbrev pub entry_columns : Option NameEntry → List Sort
entry_columns None = []
entry_columns (Some entry) = entry.sorts
