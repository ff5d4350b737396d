-- The headline: what is asked of a run that enforces, from where it starts, and what becomes of its log.
use Rattle.enf_data.specs.declared.limits.TheConstants.{MOST_FILE_BYTES}
use Rattle.enf_data.specs.declared.terms.VarId.{VarId}
use Rattle.enf_data.specs.meaning.Data.{IsTrace}
use Rattle.std.specs.Prelude.{List, map, ℕ, Option, [], ◌∷◌, None, Some, ◌+◌, ◌++◌, codes, ◌≡◌, ◌≤◌, length, IsTrue}
use Rattle.std.specs.Prelude.{◌<◌, decimal, ◌⊎◌, ◌^◌, ◌≢◌}
use Rattle.enf_io.specs.meaning.Files.{Contents, FileBytes, one_more, with_contents, FileView}
use Rattle.enf_formula.specs.meaning.Satisfaction.{Formula}
use Rattle.signature.specs.declared.entries.NameEntry.{NameEntry}
use Rattle.signature.specs.meaning.Grammar.{SpellEntries, signature_tokens, entry_names as names_of}
use Rattle.trace_meaning.specs.meaning.Traces.{Start, from_nothing, IsWithin, trace_of, start_behind, Good, Satisfies}
use Rattle.trace_meaning.specs.meaning.Traces.{Lawful, Record, StepRecord, Tick, NeverFall, clock_after, recorded}
use Rattle.trace_meaning.specs.meaning.Traces.{time_of}
use Rattle.formula_reader.specs.meaning.SortRefusals.{SpellsRules}
use Rattle.formula_reader.specs.meaning.Resolution.{Rule}
use Rattle.plan_terms.specs.meaning.Plans.{Plan}
use Rattle.past_state.specs.meaning.KeptRows.{all_operators}
use Rattle.obligations.specs.meaning.Pending.{IsReady}
use Rattle.save_codec.specs.meaning.SavedTexts.{IsTextOfLines, IsSavedText, lines_of}
use Rattle.enforce_types.specs.meaning.Elab.{ArePlanned, IsAccepted, is_causable, is_suppressible}
use Rattle.std.specs.List.{flat_map}
use Rattle.enf_io.specs.meaning.Exchange.{IsAtEnd, Stream, AtEachMark, OfCalls, taken_bytes}
use Rattle.choice_step.specs.meaning.ActedSteps.{ActedStep, out_steps, untouched}
use Rattle.log_stream.specs.declared.items.LogItem.{LogItem}
use Rattle.log_stream.specs.declared.items.LogMode.TheVariants.{Input}
use Rattle.log_stream.specs.declared.items.LogRefusal.{LogRefusal}
use Rattle.log_stream.specs.meaning.LogGrammar.{SpellsRecords, IsPending, BeginsWithRecord, IsTruncated, RefusesFront}
use Rattle.log_stream.specs.meaning.LogGrammar.{behind_blanks, text_of}
use Rattle.action_report.specs.meaning.ReportLines.{action_line}
use Rattle.rank_check.specs.meaning.AcceptedPlans.{is_transparent}
use Rattle.enforcer_core.specs.meaning.JustifiedByPolicy.{IsJustifiedByPolicy}
use Rattle.enf_run.specs.declared.refusals.Status.{Status}
use Rattle.log_stream.specs.declared.items.LogItem.TheVariants as items
use Rattle.log_stream.specs.declared.items.LogRefusal.TheVariants as log
use Rattle.enf_run.specs.declared.refusals.Status.TheVariants as statuses

-- the formulas of a policy's rules
abbrev pub all_formulas : List Rule → List Formula
all_formulas rules = map (λ rule. rule.formula) rules

-- the files that the words name for states: the one from which the run starts, and the one to which it saves
pub record States : Type 0 where
  pub resumed : Option (List ℕ)
  pub saved : Option (List ℕ)

-- the words of an option, where a file is named for it
abbrev pub option_words : (option : List ℕ) → Option (List ℕ) → List (List ℕ)
option_words option None = []
option_words option (Some file) = option ∷ file ∷ []

-- the words after the policy: the options for states
abbrev pub state_words : States → List (List ℕ)
state_words states = option_words (codes "--resume") states.resumed ++ option_words (codes "--save") states.saved

-- the bytes are the saved text of a run that has come so far under a policy of these rules, whose bytes and those of
-- whose signature are these: they tell the trace, its clock, what the guards remember and what is pending
pub record IsStateText (entries : List NameEntry) (rules : List Rule) (signature policy : List ℕ) (at : Start)
    (state : List ℕ) : Type 0 where
  pub plans : List Plan
  pub guards : List (Formula × List VarId)
  pub planned : ArePlanned entries (all_formulas rules) plans guards
  pub text : IsSavedText signature policy plans
      (all_operators (map (λ (guard : Formula × List VarId). guard.0) guards)) at.trace at.clock state

-- the bytes are the saved text of a run that can go on from there: nothing is missing anywhere in its trace, and no
-- deadline is over at its clock
pub record IsReadyState (entries : List NameEntry) (rules : List Rule) (signature policy : List ℕ) (at : Start)
    (state : List ℕ) : Type 0 where
  pub is_state : IsStateText entries rules signature policy at state
  pub form : IsTextOfLines state signature policy (lines_of is_state.text.0)
  pub is_trace : IsTrace at.trace
  pub ready : IsReady is_state.plans at.trace at.clock

-- where a run starts: from nothing; or, where files tell a state to resume, from whatever trace and clock it is the
-- state of
abbrev pub StartsAt : (resumed : Option (List ℕ)) → (files : List ℕ → Contents) → List NameEntry → List Rule
    → (signature policy : List ℕ) → Start → Type 0
StartsAt None files entries rules signature policy start = start ≡ from_nothing
StartsAt (Some file) files entries rules signature policy start =
    (state : List ℕ) × (files file ≡ FileBytes state) × IsReadyState entries rules signature policy start state

-- the words are `enforce SIGNATURE POLICY`, with `--resume FILE` where a state is resumed and `--save FILE` where one
-- is saved; the files tell a signature, and an accepted policy under it, and from where the run starts
pub record IsAskedRun (words : List (List ℕ)) (told : Option (List ℕ → Contents)) (states : States) (start : Start)
    (entries : List NameEntry) (rules : List Rule) : Type 0 where
  pub signature_file : List ℕ
  pub policy_file : List ℕ
  pub form : words ≡ codes "enforce" ∷ signature_file ∷ policy_file ∷ state_words states
  pub files : List ℕ → Contents
  pub tell : told ≡ Some files
  pub signature : List ℕ
  pub first : files signature_file ≡ FileBytes signature
  pub is_signature : (length signature ≤ MOST_FILE_BYTES) × SpellEntries entries (signature_tokens signature)
  pub policy : List ℕ
  pub second : files policy_file ≡ FileBytes policy
  pub is_policy : (length policy ≤ MOST_FILE_BYTES) × SpellsRules entries policy rules
  pub accepted : IsAccepted entries (all_formulas rules)
  pub starts : StartsAt states.resumed files entries rules signature policy start

-- ---- The headline: what becomes of a log that a run enforces, in words of the crates below.

-- what an item of a log is for an enforcer
abbrev pub record_of : LogItem → Record
record_of (items.Step kind time events) = StepRecord (record { time = time; events = events })
record_of (items.Tick time) = Tick time

abbrev pub records_of : List LogItem → List Record
records_of read = map record_of read

-- the bytes taken are these records, whose times never fall, and a rest; those given are the lines of what was emitted
pub record IsAnsweredLog (entries : List NameEntry) (rules : List Rule) (start : Start) (taken given : List ℕ)
    : Type 0 where
  pub read : List LogItem
  pub rest : List ℕ
  pub spelled : SpellsRecords entries Input taken read rest
  pub rising : NeverFall start.clock (records_of read)
  pub out : List ActedStep
  pub text : given ≡ text_of (names_of entries) (out_steps out)
  -- the step of each record is kept, only causable events were added and only suppressible ones taken out
  pub lawful : Lawful (is_causable entries) (is_suppressible entries) (records_of read) (out_steps out)
  -- each such action, and each inserted step, serves what is owed and is otherwise lost
  pub justified : IsJustifiedByPolicy entries (all_formulas rules) start.trace (records_of read) out

-- a policy has the transparent mark where the plans of its rules have it
pub record IsTransparentPolicy (entries : List NameEntry) (policy : List Formula) : Type 0 where
  pub plans : List Plan
  pub guards : List (Formula × List VarId)
  pub planned : ArePlanned entries policy plans guards
  pub marked : IsTrue (is_transparent plans)

-- what was emitted for the records, the inserted steps below the clock, can be continued well from it on; and under the
-- mark it is the steps of the records, as they came, where these can be
pub record IsGoodSoFar (entries : List NameEntry) (rules : List Rule) (start : Start) (records : List Record)
    (out : List ActedStep) : Type 0 where
  pub within : IsWithin start.clock (clock_after start.clock records) (out_steps out)
  pub good : Good (all_formulas rules) (start.trace ++ trace_of (out_steps out)) (clock_after start.clock records)
  pub alone : IsTransparentPolicy entries (all_formulas rules)
      → Good (all_formulas rules) (start.trace ++ recorded records) (clock_after start.clock records)
      → out ≡ untouched (recorded records)

-- so far: no whole record is left, and what was emitted is good
pub record IsKeptSoFar (entries : List NameEntry) (rules : List Rule) (start : Start) (taken given : List ℕ)
    : Type 0 where
  pub answered : IsAnsweredLog entries rules start taken given
  pub pending : IsPending answered.rest
  pub so_far : IsGoodSoFar entries rules start (records_of answered.read) answered.out

-- the greatest number of bytes that are taken of a log
abbrev pub most_log_bytes : ℕ
most_log_bytes = 1099511627776

-- the input was taken to its end, where that is told
abbrev pub IsTakenToEnd : ℕ → Stream → Type 0
IsTakenToEnd count after = (count < most_log_bytes) × IsAtEnd after.told

-- why the reader of logs refuses a record, in the words of the report
abbrev pub text_of_log_refusal : LogRefusal → List ℕ
text_of_log_refusal (log.BadRecord place) = codes "bad at " ++ decimal place
text_of_log_refusal (log.UnknownName place) = codes "unknown name at " ++ decimal place
text_of_log_refusal (log.Arity place) = codes "arity at " ++ decimal place
text_of_log_refusal (log.SortClash place) = codes "sort at " ++ decimal place
text_of_log_refusal log.TooLong = codes "too long"
text_of_log_refusal log.TimeTooLarge = codes "time too large"
text_of_log_refusal log.Truncated = codes "truncated"
text_of_log_refusal log.NoMemory = codes "no memory"

-- why the rest of so many bytes is refused, in these words: by the reader of logs; since the input ends within a
-- record; since its time is below the clock; or since no more may be taken
abbrev pub IsRestRefusedFor : List NameEntry → (clock count : ℕ) → (rest : List ℕ) → Stream → (words : List ℕ) → Type 0
IsRestRefusedFor entries clock count rest gate words =
    ((why : LogRefusal) × RefusesFront entries Input rest why × (words ≡ text_of_log_refusal why))
    ⊎ ((IsTruncated rest × IsTakenToEnd count gate × (words ≡ codes "truncated"))
    ⊎ (((item : LogItem) × (more : List ℕ) × BeginsWithRecord entries Input rest item more
    × (time_of (record_of item) < clock)
    × (words ≡ codes "time " ++ decimal (time_of (record_of item)) ++ codes " is below " ++ decimal clock))
    ⊎ (IsPending rest × (count ≡ most_log_bytes) × (words ≡ codes "input limit"))))

-- a front of a line
abbrev pub IsLineFront : (line front : List ℕ) → Type 0
IsLineFront line front = (missing : List ℕ) × (line ≡ front ++ missing)

-- how the log ended, by the status: nothing of it is left, or its next record is refused, or a read failed; and the
-- last line of the report
abbrev pub LogEndsWithStatus : List NameEntry → (clock : ℕ) → (read : List LogItem) → (taken rest last : List ℕ)
    → (gate gate' : Stream) → Status → Type 0
LogEndsWithStatus entries clock read taken rest last gate gate' statuses.Done =
    (behind_blanks rest ≡ []) × IsTakenToEnd (length taken) gate' × (gate'.read_faults ≡ gate.read_faults) × (last ≡ [])
LogEndsWithStatus entries clock read taken rest last gate gate' statuses.Record =
    (words : List ℕ) × IsRestRefusedFor entries (clock_after clock (records_of read)) (length taken) rest gate' words
    × (gate'.read_faults ≡ gate.read_faults)
    × IsLineFront (codes "record " ++ decimal (length read + 1) ++ codes ": " ++ words ++ codes "\n") last
LogEndsWithStatus entries clock read taken rest last gate gate' statuses.ReadFault =
    IsPending rest × (gate'.read_faults ≡ one_more gate.read_faults) × IsLineFront (codes "read fault\n") last
LogEndsWithStatus entries clock read taken rest last gate gate' other = ⊥

-- the lines of the actions that made a step, in their order, and of all that made these steps
abbrev pub step_action_lines : List NameEntry → List Rule → ActedStep → List ℕ
step_action_lines entries rules step = flat_map (action_line entries rules) step.actions

abbrev pub action_lines : List NameEntry → List Rule → List ActedStep → List ℕ
action_lines entries rules steps = flat_map (step_action_lines entries rules) steps

-- at the end: what was emitted is a trace that satisfies every rule at every position, the report says the lines of the
-- actions, and under the mark what was emitted is the steps of the records, as they came, where these satisfy the policy
pub record IsKeptToEnd (entries : List NameEntry) (rules : List Rule) (start : Start) (gate gate' : Stream)
    (result : Status) (taken given : List ℕ) (Says : List ℕ → Type 0) : Type 0 where
  pub answered : IsAnsweredLog entries rules start taken given
  pub last : List ℕ
  pub ended : LogEndsWithStatus entries start.clock answered.read taken answered.rest last gate gate' result
  pub is_trace : IsTrace (start.trace ++ trace_of (out_steps answered.out))
  pub satisfied : Satisfies (start.trace ++ trace_of (out_steps answered.out)) (all_formulas rules)
  pub reported : Says (action_lines entries rules answered.out ++ last)
  pub alone : IsTransparentPolicy entries (all_formulas rules)
      → Satisfies (start.trace ++ recorded (records_of answered.read)) (all_formulas rules)
      → answered.out ≡ untouched (recorded (records_of answered.read))

-- at a save: the log was taken to its end, what was emitted is good so far, the report says the lines of the actions,
-- and the state after it stands under the name of its file, which alone has changed; it is one to start from as long
-- as its position is below 2^63, since a greater number has not the form
pub record IsKeptAtSave (entries : List NameEntry) (rules : List Rule) (start : Start) (signature policy file : List ℕ)
    (files : List ℕ → Contents) (told : Option (List ℕ → Contents)) (gate gate' : Stream)
    (taken given : List ℕ) (Says : List ℕ → Type 0) : Type 0 where
  pub answered : IsAnsweredLog entries rules start taken given
  pub ended : LogEndsWithStatus entries start.clock answered.read taken answered.rest [] gate gate' statuses.Done
  pub so_far : IsGoodSoFar entries rules start (records_of answered.read) answered.out
  pub reported : Says (action_lines entries rules answered.out)
  pub state : List ℕ
  pub is_state : IsStateText entries rules signature policy
      (start_behind start (records_of answered.read) (out_steps answered.out)) state
  pub ready : length (start.trace ++ trace_of (out_steps answered.out)) < 2 ^ 63
      → IsReadyState entries rules signature policy
      (start_behind start (records_of answered.read) (out_steps answered.out)) state
  pub stands : told ≡ Some (with_contents file (FileBytes state) files)

-- the log was taken to its end, and no state is to be saved there; or to a record that is refused, or to a read that
-- failed
abbrev pub HasTakenLog : (saved : Option (List ℕ)) → (gate gate' : Stream) → Status → Type 0
HasTakenLog saved gate gate' result = ((result ≡ statuses.Done) × (saved ≡ None)) ⊎ ((result ≡ statuses.Record)
    ⊎ ((result ≡ statuses.ReadFault) × (gate'.read_faults ≢ gate.read_faults)))

-- the gate, the files and the report are as they are seen before the call and after it
pub record Headline (words : List (List ℕ)) (files files' : FileView) (gate gate' report report' : Stream)
    (result : Status) : Type 0 where
  pub at_the_end : (states : States) (start : Start) (entries : List NameEntry) (rules : List Rule)
      → IsAskedRun words files.contents states start entries rules → HasTakenLog states.saved gate gate' result
      → OfCalls (λ log. IsKeptToEnd entries rules start gate gate' result (taken_bytes log) log.given
      (λ lines. OfCalls (λ said. said.given ≡ lines) report.told report'.told)) gate.told gate'.told
  pub at_a_save : (states : States) (start : Start) (file : List ℕ) (entries : List NameEntry) (rules : List Rule)
      → (asked : IsAskedRun words files.contents states start entries rules) → states.saved ≡ Some file
      → result ≡ statuses.Done → OfCalls (λ log.
      IsKeptAtSave entries rules start asked.signature asked.policy file asked.files files'.contents gate gate'
      (taken_bytes log) log.given
      (λ lines. OfCalls (λ said. said.given ≡ lines) report.told report'.told)) gate.told gate'.told
  pub at_each_read : (states : States) (start : Start) (entries : List NameEntry) (rules : List Rule)
      → IsAskedRun words files.contents states start entries rules
      → OfCalls (AtEachMark (IsKeptSoFar entries rules start)) gate.told gate'.told
