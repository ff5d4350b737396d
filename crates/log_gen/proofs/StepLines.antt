-- The lines of steps, one after another, are read as the steps.
use Rattle.std.proofs.Common.{◌≡◌, ℕ, List, [], ◌∷◌, refl}
use Rattle.std.specs.Prelude.{None}
use Rattle.std.specs.List.{AllByRecursion, flat_map}
use Rattle.enf_data.specs.declared.steps.Step.{Step}
use Rattle.signature.specs.declared.entries.NameEntry.{NameEntry}
use Rattle.signature.specs.meaning.Grammar.{IsSignature, entry_names}
use Rattle.trace_meaning.specs.declared.kinds.StepKind.TheVariants.{System}
use Rattle.log_stream.specs.declared.items.LogItem.{LogItem}
use Rattle.log_stream.specs.declared.items.LogMode.{LogMode}
use Rattle.log_stream.specs.declared.items.LogMode.TheVariants.{Input, TraceLog}
use Rattle.log_stream.specs.meaning.LogGrammar.{step_line, IsLog, SpellsRecords, behind_blanks, ModeReads}
use Rattle.log_stream.specs.machine.Laws.{StepLineIsRead}
use Rattle.log_stream.specs.machine.StepLimits.{IsWithinLimits}
use Rattle.log_gen.specs.machine.Generators.{read_items}

-- a line feed in front counts for nothing
spells_behind_feed : (entries : List NameEntry) (mode : LogMode) (text : List ℕ) (records : List LogItem) (rest : List ℕ)
    → SpellsRecords entries mode text records rest → SpellsRecords entries mode (10 ∷ text) records rest
spells_behind_feed entries mode text [] rest spelled = spelled
spells_behind_feed entries mode text (record' ∷ records) rest spelled = spelled

-- the lines of steps
abbrev pub lines : List NameEntry → List Step → List ℕ
lines entries steps = flat_map (λ step. step_line (entry_names entries) System step.time step.events) steps

read_system : (mode : LogMode) → ModeReads mode System
read_system Input = tt
read_system TraceLog = tt

-- steps within the limits are read again
spells_lines : StepLineIsRead → (entries : List NameEntry) (mode : LogMode) → IsSignature entries → (steps : List Step)
    → AllByRecursion (λ step. IsWithinLimits entries System step.time step.events) steps
    → (rest : List ℕ) × SpellsRecords entries mode (lines entries steps) (read_items steps) rest × (behind_blanks rest ≡ [])
spells_lines again entries mode signature [] within = ([], refl, refl)
spells_lines again entries mode signature (step ∷ steps) within =
    let behind = spells_lines again entries mode signature steps within.1 in (
      behind.0,
      (
        10 ∷ lines entries steps,
        again entries mode System step.time step.events (lines entries steps) signature (read_system mode) within.0,
        spells_behind_feed entries mode (lines entries steps) (read_items steps) behind.0 behind.1,
      ),
      behind.2,
    )

pub IsLog-lines : StepLineIsRead → (entries : List NameEntry) (mode : LogMode) → IsSignature entries → (steps : List Step)
    → AllByRecursion (λ step. IsWithinLimits entries System step.time step.events) steps
    → IsLog entries mode (lines entries steps) (read_items steps) None
IsLog-lines again entries mode signature steps within =
    let spelled = spells_lines again entries mode signature steps within in
    (spelled.0, spelled.1, spelled.2)
