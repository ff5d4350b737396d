-- Events that fit a signature, and entries that can be put into it.
use Rattle.enf_data.specs.declared.events.Event.{Event}
use Rattle.enf_data.specs.declared.limits.TheConstants.{MOST_NAMES}
use Rattle.enf_data.specs.declared.values.Value.{Value}
use Rattle.std.specs.List.{AllByRecursion}
use Rattle.std.specs.Prelude.{◌≡◌, List, [], ◌∷◌, Some, slice_get, ◌<◌, length, None, ℕ, Vec}
use Rattle.std.specs.declared.alloc.Global.{Global}
use Rattle.signature.specs.declared.entries.NameEntry.{NameEntry}
use Rattle.signature.specs.declared.entries.Sort.{Sort}
use Rattle.signature.specs.meaning.Columns.{value_sort, entry_columns}
use Rattle.signature.specs.meaning.Grammar.{name_number, IsNameEntry}

-- a value for each column, of its sort
abbrev pub FillColumns : List Value → (entry_columns : List Sort) → Type 0
FillColumns [] [] = Unit {0}
FillColumns [] (column ∷ entry_columns) = ⊥
FillColumns (value ∷ values) [] = ⊥
FillColumns (value ∷ values) (column ∷ entry_columns) = (value_sort value ≡ column)
    × FillColumns values entry_columns

-- the event is of a name of the signature, with a value for each column of it
abbrev pub FitsSignature : List NameEntry → Event → Type 0
FitsSignature entries event =
    (entry : NameEntry) × (slice_get entries event.name.0 ≡ Some entry) × FillColumns event.args entry.sorts

-- the entry can be put after the others
pub record IsNewEntry (entries : List NameEntry) (entry : NameEntry) : Type 0 where
  pub room : length entries < MOST_NAMES
  pub fits : IsNameEntry entry
  pub absent : name_number entries entry.text ≡ None

-- each key is the name of its entry
abbrev pub AreKeyedByName : List (Vec ℕ Global × NameEntry) → Type 0
AreKeyedByName pairs = AllByRecursion (λ pair. pair.0.items ≡ pair.1.text) pairs
