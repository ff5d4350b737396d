-- That what the headline says of two runs that take one log holds of them as of one run.
use Rattle.std.specs.Prelude.{ℕ, ◌+◌, List, ◌++◌, codes, decimal, ◌≡◌, ◌⊎◌, ◌<◌, [], length, Option, ◌^◌, ◌∷◌, Some}
use Rattle.enf_io.specs.meaning.Exchange.{Stream}
use Rattle.enf_io.specs.meaning.Files.{Contents, FileBytes}
use Rattle.signature.specs.declared.entries.NameEntry.{NameEntry}
use Rattle.trace_meaning.specs.meaning.Traces.{Start, start_behind, trace_of}
use Rattle.formula_reader.specs.meaning.Resolution.{Rule}
use Rattle.choice_step.specs.meaning.ActedSteps.{out_steps}
use Rattle.enf_run.specs.declared.refusals.Status.{Status}
use Rattle.enf_run.specs.meaning.Headline.{IsAskedRun, States, state_words, IsAnsweredLog, records_of, IsKeptToEnd}
use Rattle.enf_run.specs.meaning.Headline.{IsKeptAtSave, action_lines, most_log_bytes}
use Rattle.enf_run.specs.machine.CommandForms.{states_of}
use Rattle.enf_run.specs.declared.refusals.Status.TheVariants as statuses

-- ---- the headline

-- what stands in the line that refuses the record of a number in front of the words
abbrev pub record_head : ℕ → List ℕ
record_head number = codes "record " ++ decimal number ++ codes ": "

-- lines with the same words that refuse the record of a number, and of one that is greater by so much; of a line that
-- was cut in front of them there is nothing
abbrev pub AreNumberedLines : (more number : ℕ) → (line line' : List ℕ) → Type 0
AreNumberedLines more number line line' =
    ((words : List ℕ) × (line ≡ record_head number ++ words) × (line' ≡ record_head (more + number) ++ words))
    ⊎ ((length line < length (record_head number)) × (line' ≡ []))

-- the last line of a report, and what it is where so many records stand before those of the log: one that is refused is
-- counted after them
abbrev pub IsLastBehind : (more number : ℕ) → Status → (line line' : List ℕ) → Type 0
IsLastBehind more number statuses.Record line line' = AreNumberedLines more number line line'
IsLastBehind more number status line line' = line' ≡ line

-- where a run has come to whose log was answered so
abbrev pub start_after : {entries : List NameEntry} → {rules : List Rule} → {taken given : List ℕ}
    → (start : Start) → IsAnsweredLog entries rules start taken given → Start
start_after start answered = start_behind start (records_of answered.read) (out_steps answered.out)

-- what is kept of a log after one that was saved is kept of both logs as of one, where the second run ends with the
-- drain
abbrev pub KeptBehindSaved : Type 0
KeptBehindSaved = (entries : List NameEntry) (rules : List Rule) (start : Start) (signature policy file : List ℕ)
    (files : List ℕ → Contents) (told : Option (List ℕ → Contents)) (gate gate' : Stream)
    (taken given said : List ℕ)
    → (first : IsKeptAtSave entries rules start signature policy file files told gate gate' taken given
    (λ lines. said ≡ lines))
    → (next next' : Stream) (result : Status) (taken' given' said' : List ℕ)
    → (second : IsKeptToEnd entries rules (start_after start first.answered) next next' result taken' given'
    (λ lines. said' ≡ lines))
    → length (taken ++ taken') < most_log_bytes
    → (last : List ℕ)
    × IsLastBehind (length first.answered.read) (length second.answered.read + 1) result second.last last
    × IsKeptToEnd entries rules start next next' result (taken ++ taken') (given ++ given')
    (λ lines. said ++ (action_lines entries rules second.answered.out ++ last) ≡ lines)

-- what is kept of a log after one that was saved is kept of both logs as of one, where the second run is saved again
abbrev pub SavedBehindSaved : Type 0
SavedBehindSaved = (entries : List NameEntry) (rules : List Rule) (start : Start) (signature policy file : List ℕ)
    (files : List ℕ → Contents) (told : Option (List ℕ → Contents)) (gate gate' : Stream)
    (taken given said : List ℕ)
    → (first : IsKeptAtSave entries rules start signature policy file files told gate gate' taken given
    (λ lines. said ≡ lines))
    → (file' : List ℕ) (files' : List ℕ → Contents) (told' : Option (List ℕ → Contents))
    (next next' : Stream) (taken' given' said' : List ℕ)
    → IsKeptAtSave entries rules (start_after start first.answered) signature policy file' files' told' next next'
    taken' given' (λ lines. said' ≡ lines)
    → length (taken ++ taken') < most_log_bytes
    → IsKeptAtSave entries rules start signature policy file' files' told' next next'
    (taken ++ taken') (given ++ given') (λ lines. said ++ said' ≡ lines)

-- a second run is asked to go on from where the first has come to, where its words name a file that holds the state
-- that was saved, and the same signature and policy: what is said of that run holds from there
abbrev pub SavedIsAsked : Type 0
SavedIsAsked = (words : List (List ℕ)) (told : Option (List ℕ → Contents)) (states : States) (start : Start)
    (entries : List NameEntry) (rules : List Rule) → (asked : IsAskedRun words told states start entries rules)
    → (file : List ℕ) (told' : Option (List ℕ → Contents)) (gate gate' : Stream) (taken given said : List ℕ)
    → (saved : IsKeptAtSave entries rules start asked.signature asked.policy file asked.files told' gate gate'
    taken given (λ lines. said ≡ lines))
    → length (start.trace ++ trace_of (out_steps saved.answered.out)) < 2 ^ 63
    → (signature_file policy_file resumed : List ℕ) (to : Option (List ℕ)) (files : List ℕ → Contents)
    → files signature_file ≡ FileBytes asked.signature → files policy_file ≡ FileBytes asked.policy
    → files resumed ≡ FileBytes saved.state
    → IsAskedRun (codes "enforce" ∷ signature_file ∷ policy_file ∷ state_words (states_of (Some resumed) to))
    (Some files) (states_of (Some resumed) to) (start_after start saved.answered) entries rules
