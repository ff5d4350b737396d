-- A log that is being generated, and what its calls do.
use Rattle.enf_data.specs.declared.steps.Step.{Step}
use Rattle.std.specs.Prelude.{ℕ, List, map, ◌≡◌, ◌<◌, ◌+◌, Option, None, Some, ◌≤◌}
use Rattle.signature.specs.declared.entries.NameEntry.{NameEntry}
use Rattle.trace_meaning.specs.declared.kinds.StepKind.TheVariants.{System}
use Rattle.log_stream.specs.declared.items.LogItem.{LogItem}
use Rattle.log_gen.specs.meaning.GeneratedLogs.{generated_step, sample_line, first_draw, time_before}
use Rattle.log_gen.specs.meaning.Samples.{sample_entries}
use Rattle.log_stream.specs.declared.items.LogItem.TheVariants as items

-- draws from a start, and how many of them were made
pub record Drawn : Type 0 where
  pub start : ℕ
  pub made : ℕ

-- the line of the step with a number
abbrev pub generated_line : ℕ → ℕ → List ℕ
generated_line start step = sample_line (generated_step start step)

-- the steps as a reader of logs hands them out
abbrev pub read_items : List Step → List LogItem
read_items steps = map (λ step. items.Step System step.time step.events) steps

-- a log that is being generated: its start, the steps made, and the steps in all
pub record Progress : Type 0 where
  pub start : ℕ
  pub made : ℕ
  pub steps : ℕ

-- one step more was made, and this is it
pub record MakesStep (before : Progress) (step : Step) (after : Progress) : Type 0 where
  pub more : before.made < before.steps
  pub step_is : step ≡ generated_step before.start before.made
  pub after_is : after ≡ record { start = before.start; made = before.made + 1; steps = before.steps }

-- the step that was made; none where all were made before
abbrev pub AnswersStep : Progress → Option Step → Progress → Type 0
AnswersStep before None after = (before.made ≡ before.steps) × (after ≡ before)
AnswersStep before (Some step) after = MakesStep before step after

-- what a generator keeps: the draws and the time stand before the next step
pub record IsUnderWay (start made steps time : ℕ) (draws : Drawn) (signature : List NameEntry) : Type 0 where
  pub within : made ≤ steps
  pub few : steps ≤ 1000000
  pub starts : draws.start ≡ start
  pub drawn : draws.made ≡ first_draw start made
  pub timed : time ≡ time_before start made
  pub named : signature ≡ sample_entries
