-- The generated log: the draws from a start, and the steps that they make.
use Rattle.enf_data.specs.declared.events.Event.{Event}
use Rattle.enf_data.specs.declared.steps.Step.{Step}
use Rattle.enf_data.specs.declared.values.Value.TheVariants.{Text}
use Rattle.std.specs.List.{flat_map}
use Rattle.std.specs.Prelude.{ℕ, ◌+◌, ◌*◌, ◌%◌, zero, suc, ◌/◌, List, [], ◌∷◌, codes, slice_index_or, unwrap_or, ◌++◌}
use Rattle.std.specs.Prelude.{decimal, map}
use Rattle.signature.specs.meaning.Grammar.{name_number, entry_names}
use Rattle.trace_meaning.specs.declared.kinds.StepKind.TheVariants.{System}
use Rattle.trace_meaning.specs.meaning.Traces.{Record, StepRecord}
use Rattle.log_stream.specs.meaning.LogGrammar.{with_events_put, step_line}
use Rattle.log_gen.specs.meaning.Samples.{sample_entries}

-- the state that follows a state
abbrev pub next_state : ℕ → ℕ
next_state state = (state * 1103515245 + 12345) % 2147483648

-- the state after so many draws
abbrev pub state_after : ℕ → ℕ → ℕ
state_after start zero = start
state_after start (suc count) = next_state (state_after start count)

-- the draw with a number, counted from 0
abbrev pub draw : ℕ → ℕ → ℕ
draw start number = next_state (state_after start number) / 65536

-- the names of generated events
abbrev pub drawn_names : List (List ℕ)
drawn_names = codes "request" ∷ codes "consent" ∷ codes "use" ∷ codes "delete" ∷ codes "lock" ∷ []

-- the number in the sample signature of the name that a draw gives
abbrev pub drawn_number : ℕ → ℕ
drawn_number c = unwrap_or (name_number sample_entries (slice_index_or drawn_names (c % 5) [])) 0

-- the event of two draws: the first gives its name, the second its text, `u0` to `u15`
abbrev pub drawn_event : ℕ → ℕ → Event
drawn_event c e = record { name = record { 0 = drawn_number c }; args = Text (codes "u" ++ decimal (e % 16)) ∷ [] }

-- the events of so many pairs of draws, the first of which begins at a number
abbrev pub drawn_events : ℕ → ℕ → ℕ → List Event
drawn_events start number zero = []
drawn_events start number (suc pairs) = drawn_events start number pairs
    ++ drawn_event (draw start (number + 2 * pairs)) (draw start (number + 2 * pairs + 1)) ∷ []

-- how many events a step draws whose first draw has this number: its second draw says it
abbrev pub event_count : ℕ → ℕ → ℕ
event_count start number = draw start (number + 1) % 4

-- the number of a step's first draw: each step makes two draws, and two for each event
abbrev pub first_draw : ℕ → ℕ → ℕ
first_draw start zero = 0
first_draw start (suc step) = first_draw start step + 2 + 2 * event_count start (first_draw start step)

-- the time before a step: each step's first draw adds 0 to 7
abbrev pub time_before : ℕ → ℕ → ℕ
time_before start zero = 0
time_before start (suc step) = time_before start step + draw start (first_draw start step) % 8

-- a step by its number, counted from 0; a repeat among its events is left out
abbrev pub generated_step : ℕ → ℕ → Step
generated_step start step = record {
  time = time_before start (suc step);
  events = with_events_put [] (drawn_events start (first_draw start step + 2)
      (event_count start (first_draw start step)));
}

-- the first so many steps
abbrev pub generated : ℕ → ℕ → List Step
generated start zero = []
generated start (suc steps) = generated start steps ++ generated_step start steps ∷ []

-- the first so many steps of the generated log, as records of a log
abbrev pub generated_records : ℕ → ℕ → List Record
generated_records start steps = map (λ step. StepRecord step) (generated start steps)

-- the line of a step, under the sample signature
abbrev pub sample_line : Step → List ℕ
sample_line step = step_line (entry_names sample_entries) System step.time step.events

-- the text of the first so many steps: their lines
abbrev pub generated_text : ℕ → ℕ → List ℕ
generated_text start steps = flat_map sample_line (generated start steps)
