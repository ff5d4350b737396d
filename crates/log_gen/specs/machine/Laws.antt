-- The text that is generated is read as its steps.
use Rattle.std.specs.Prelude.{◌≤◌, ℕ, None}
use Rattle.log_stream.specs.declared.items.LogMode.{LogMode}
use Rattle.log_stream.specs.meaning.LogGrammar.{IsLog}
use Rattle.log_gen.specs.machine.Generators.{read_items}
use Rattle.log_gen.specs.meaning.GeneratedLogs.{generated, generated_text}
use Rattle.log_gen.specs.meaning.Samples.{sample_entries}

-- the text is a log under the sample signature, read as the steps and without a refusal
abbrev pub IsReadAsGenerated : Type 0
IsReadAsGenerated =
    (start steps : ℕ) (mode : LogMode) → steps ≤ 1000000
    → IsLog sample_entries mode (generated_text start steps) (read_items (generated start steps)) None
