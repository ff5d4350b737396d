-- What the worked cases of the grammar speak of.
use Rattle.enf_data.specs.declared.events.Event.{Event}
use Rattle.enf_data.specs.declared.values.Value.{Value}
use Rattle.std.specs.Prelude.{ℕ, false, List, [], ◌∷◌, codes}
use Rattle.signature.specs.declared.entries.NameEntry.{NameEntry}
use Rattle.signature.specs.declared.entries.Sort.{Sort}
use Rattle.signature.specs.declared.entries.Sort.TheVariants.{Int, Text}
use Rattle.log_stream.specs.meaning.LogGrammar.{WrittenArgument, WrittenEvent}

abbrev pub plain_entry : List ℕ → List Sort → NameEntry
plain_entry name sorts = record { text = name; sorts = sorts; causable = false; suppressible = false }

-- `ping();` and `two(int, text);`
abbrev pub sample : List NameEntry
sample = plain_entry (codes "ping") [] ∷ plain_entry (codes "two") (Int ∷ Text ∷ []) ∷ []

abbrev pub arg : ℕ → Value → WrittenArgument
arg place value = record { place = place; value = value }

abbrev pub written : ℕ → List ℕ → List WrittenArgument → WrittenEvent
written place name args = record { place = place; name = name; args = args }

abbrev pub event : ℕ → List Value → Event
event number args = record { name = record { 0 = number }; args = args }
