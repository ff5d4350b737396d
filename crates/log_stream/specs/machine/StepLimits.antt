-- A step within the limits of what is read.
use Rattle.enf_data.specs.declared.events.Event.{Event}
use Rattle.enf_data.specs.declared.values.Value.{Value}
use Rattle.enf_data.specs.meaning.Membership.{HasNoRepeats}
use Rattle.enf_data.specs.meaning.Values.{IsValue}
use Rattle.std.specs.List.{AllByRecursion}
use Rattle.std.specs.Prelude.{List, [], ◌∷◌, IsTrue, ◌≡◌, Some, slice_get, ℕ, ◌≤◌, length}
use Rattle.signature.specs.declared.entries.NameEntry.{NameEntry}
use Rattle.signature.specs.declared.entries.Sort.{Sort}
use Rattle.signature.specs.meaning.Columns.{has_sort}
use Rattle.signature.specs.meaning.Grammar.{entry_names}
use Rattle.trace_meaning.specs.declared.kinds.StepKind.{StepKind}
use Rattle.trace_meaning.specs.meaning.Traces.{most_time}
use Rattle.log_stream.specs.declared.limits.TheConstants.{MOST_EVENTS, MOST_RECORD_BYTES}
use Rattle.log_stream.specs.meaning.LogGrammar.{spelled_step}

-- values of the program, one for each column and of its sort
abbrev pub FitColumns : List Sort → List Value → Type 0
FitColumns [] [] = Unit {0}
FitColumns (sort ∷ sorts) (value ∷ values) =
    IsTrue (has_sort sort value) × IsValue value × FitColumns sorts values
FitColumns [] (value ∷ values) = ⊥
FitColumns (sort ∷ sorts) [] = ⊥

-- an event of a name of the signature, with arguments that fit
pub record IsDeclared (entries : List NameEntry) (event : Event) : Type 0 where
  pub entry : NameEntry
  pub found : slice_get entries event.name.0 ≡ Some entry
  pub fit : FitColumns entry.sorts event.args

-- a step within the limits of what is read
pub record IsWithinLimits (entries : List NameEntry) (kind : StepKind) (time : ℕ) (events : List Event) : Type 0 where
  pub timed : time ≤ most_time kind
  pub few : length events ≤ MOST_EVENTS
  pub distinct : HasNoRepeats events
  pub declared : AllByRecursion (IsDeclared entries) events
  pub short : length (spelled_step (entry_names entries) kind time events) ≤ MOST_RECORD_BYTES
