-- A step's text is read again as that step.
use Rattle.enf_data.specs.declared.events.Event.{Event}
use Rattle.std.specs.Prelude.{ℕ, List, ◌∷◌, ◌++◌}
use Rattle.signature.specs.declared.entries.NameEntry.{NameEntry}
use Rattle.signature.specs.meaning.Grammar.{IsSignature, entry_names}
use Rattle.trace_meaning.specs.declared.kinds.StepKind.{StepKind}
use Rattle.log_stream.specs.declared.items.LogItem.TheVariants.{Step}
use Rattle.log_stream.specs.declared.items.LogMode.{LogMode}
use Rattle.log_stream.specs.machine.StepLimits.{IsWithinLimits}
use Rattle.log_stream.specs.meaning.LogGrammar.{BeginsWithRecord, ModeReads, step_line}

-- the line is read as the step, and what follows it is left, after a line feed
abbrev pub StepLineIsRead : Type 0
StepLineIsRead =
    (entries : List NameEntry) (mode : LogMode) (kind : StepKind) (time : ℕ) (events : List Event) (rest : List ℕ)
    → IsSignature entries → ModeReads mode kind → IsWithinLimits entries kind time events
    → BeginsWithRecord entries mode (step_line (entry_names entries) kind time events ++ rest)
    (Step kind time events) (10 ∷ rest)
