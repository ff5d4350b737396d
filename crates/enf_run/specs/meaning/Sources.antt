-- The sources of a run, a signature and a policy, and a state to start from: their texts, and the files that tell them.
use Rattle.enf_data.specs.declared.limits.TheConstants.{MOST_FILE_BYTES}
use Rattle.enf_data.specs.declared.terms.VarId.{VarId}
use Rattle.std.specs.Prelude.{Result, ℕ, List, drop, take_while, [], ◌≡◌, ◌<◌, ◌≤◌, length, Err, Ok, Option, IfSome}
use Rattle.std.specs.Prelude.{◌+◌, ◌⊎◌, map, None, Some, ◌-◌, take, ◌≢◌}
use Rattle.enf_value.specs.meaning.Tokens.{is_word_byte}
use Rattle.enf_io.specs.declared.devices.IoRefusal.TheVariants.{Failed}
use Rattle.enf_io.specs.meaning.Exchange.{Stream, Exchange, input_left}
use Rattle.enf_io.specs.meaning.FileCalls.{ReadsFile}
use Rattle.enf_io.specs.meaning.Files.{Contents, NoFile, FileBytes, FileView}
use Rattle.enf_formula.specs.meaning.Satisfaction.{Formula}
use Rattle.signature.specs.declared.entries.NameEntry.{NameEntry}
use Rattle.signature.specs.declared.refusals.SignatureRefusal.{SignatureRefusal as TextRefusal}
use Rattle.signature.specs.meaning.Refusals.{AnswersSignature}
use Rattle.trace_meaning.specs.meaning.Traces.{Start, from_nothing, NeverFall}
use Rattle.formula_reader.specs.declared.policies.PolicyRefusal.{PolicyRefusal as TextPolicyRefusal}
use Rattle.formula_reader.specs.meaning.PolicyAnswers.{IsPolicyAnswer}
use Rattle.formula_reader.specs.meaning.Resolution.{Rule}
use Rattle.formula_reader.specs.meaning.RuleText.{name_text}
use Rattle.plan_terms.specs.meaning.Plans.{Plan}
use Rattle.log_stream.specs.declared.items.LogItem.{LogItem}
use Rattle.log_stream.specs.meaning.LogGrammar.{IsLog}
use Rattle.save_codec.specs.declared.snapshots.Snapshot.{Snapshot}
use Rattle.save_codec.specs.meaning.SaveRefusals.{IsSaveRefusal}
use Rattle.save_codec.specs.meaning.SavedBounds.{SaveSetting as Bounds, KeepsBounds}
use Rattle.save_codec.specs.meaning.SavedTexts.{IsTextOfLines, lines_of}
use Rattle.enforce_types.specs.declared.refusals.TypeRefusal.{TypeRefusal}
use Rattle.enforce_types.specs.meaning.Elab.{IsAccepted, ArePlanned}
use Rattle.enforce_types.specs.meaning.PolicyRefusals.{RefusesPolicy}
use Rattle.enf_run.specs.declared.files.TheConstants.{MOST_STATE_BYTES}
use Rattle.enf_run.specs.declared.refusals.PolicyRefusal.{PolicyRefusal}
use Rattle.enf_run.specs.declared.refusals.RecordRefusal.{RecordRefusal}
use Rattle.enf_run.specs.declared.refusals.SignatureRefusal.{SignatureRefusal}
use Rattle.enf_run.specs.declared.refusals.StateRefusal.{StateRefusal}
use Rattle.enf_run.specs.meaning.Calls.{Call, LeavesGate, LeavesAll}
use Rattle.enf_run.specs.meaning.Headline.{all_formulas, IsReadyState, most_log_bytes, records_of}
use Rattle.enf_run.specs.meaning.Readings.{LogReading, AcceptsRecords, IsRestRefusedAs, taken_log}
use Rattle.signature.specs.declared.refusals.SignatureRefusal.TheVariants as answers
use Rattle.save_codec.specs.declared.refusals.StateRefusal.TheVariants as kept
use Rattle.enforce_types.specs.declared.refusals.TypeRefusal.TheVariants as types
use Rattle.enf_run.specs.declared.refusals.SignatureRefusal.TheVariants as signatures
use Rattle.enf_run.specs.declared.refusals.PolicyRefusal.TheVariants as policies
use Rattle.enf_run.specs.declared.refusals.StateRefusal.TheVariants as states

-- ---- The texts: what they spell, and why they are refused.

-- the word that begins at a place: the letters, digits and `_` from there on
abbrev pub word_from : ℕ → List ℕ → List ℕ
word_from place bytes = take_while is_word_byte (drop place bytes)

-- the name that is told with a refusal of a signature: the one that is repeated at its place
abbrev pub repeated_name : TextRefusal → List ℕ → List ℕ
repeated_name (answers.Repeated number place) bytes = word_from place bytes
repeated_name why bytes = []

-- the bytes are more than a file may have, or this is their first refusal as a signature
abbrev pub IsRefusedSignature : SignatureRefusal → List ℕ → Type 0
IsRefusedSignature signatures.TooLong bytes = MOST_FILE_BYTES < length bytes
IsRefusedSignature (signatures.Text why name) bytes =
    (length bytes ≤ MOST_FILE_BYTES) × AnswersSignature bytes (Err why) × (name.items ≡ repeated_name why bytes)

-- the name that a refusal of the typing is about
abbrev pub refused_name : List NameEntry → TypeRefusal → List ℕ
refused_name entries (types.RoleClash number) = name_text entries number
refused_name entries (types.Cyclic number) = name_text entries number
refused_name entries why = []

-- the bytes are no more than a file may have, and the reader of policies answers them so
pub record ReadsPolicy (entries : List NameEntry) (bytes : List ℕ) (result : Result (List Rule) TextPolicyRefusal)
    : Type 0 where
  pub short : length bytes ≤ MOST_FILE_BYTES
  pub answer : IsPolicyAnswer entries bytes result

-- the bytes are a policy, and its typing refuses it so
pub record SpellsRefusedPolicy (entries : List NameEntry) (bytes : List ℕ) (why : TypeRefusal) : Type 0 where
  pub policy : List Rule
  pub reads : ReadsPolicy entries bytes (Ok policy)
  pub refused : RefusesPolicy entries (all_formulas policy) why

-- the bytes are more than a file may have, or this is their first refusal as a policy, by the reading or else by the
-- typing
abbrev pub IsRefusedPolicy : List NameEntry → PolicyRefusal → List ℕ → Type 0
IsRefusedPolicy entries policies.TooLong bytes = MOST_FILE_BYTES < length bytes
IsRefusedPolicy entries (policies.Text why) bytes = ReadsPolicy entries bytes (Err why)
IsRefusedPolicy entries (policies.Typing types.NoMemory name) bytes = ⊥
IsRefusedPolicy entries (policies.Typing why name) bytes =
    SpellsRefusedPolicy entries bytes why × (name.items ≡ refused_name entries why)

-- the bytes are more than a state may have, or this is their first refusal as a state, under the sources and within
-- these bounds
abbrev pub IsRefusedState : StateRefusal → (signature policy : List ℕ) → Bounds → (bytes : List ℕ) → Type 0
IsRefusedState states.TooLong signature policy bounds bytes = MOST_STATE_BYTES < length bytes
IsRefusedState (states.Text kept.NoMemory) signature policy bounds bytes = ⊥
IsRefusedState (states.Text why) signature policy bounds bytes =
    (length bytes ≤ MOST_STATE_BYTES) × IsSaveRefusal bounds bytes signature policy why

-- the bytes are an accepted policy of these rules
pub record SpellsPolicy (entries : List NameEntry) (bytes : List ℕ) (policy : List Rule) : Type 0 where
  pub reads : ReadsPolicy entries bytes (Ok policy)
  pub accepted : IsAccepted entries (all_formulas policy)

-- the bytes are a signature of these entries, and no more than a file may have
pub record SpellsSignature (bytes : List ℕ) (entries : List NameEntry) : Type 0 where
  pub short : length bytes ≤ MOST_FILE_BYTES
  pub answer : AnswersSignature bytes (Ok entries)

-- ---- The files: what they hold, and reads of them that fail.

-- the bytes are a file's
abbrev pub AreBytesHeld : List ℕ → Contents → Type 0
AreBytesHeld bytes NoFile = ⊥
AreBytesHeld bytes (FileBytes all) = bytes ≡ all

-- the bytes are those under the name, where files tell it
abbrev pub AreBytesUnder : Option (List ℕ → Contents) → List ℕ → List ℕ → Type 0
AreBytesUnder told name bytes = IfSome told (λ files. AreBytesHeld bytes (files name))

-- files tell that these bytes stand under the name
abbrev pub TellBytes : Option (List ℕ → Contents) → List ℕ → List ℕ → Type 0
TellBytes None name bytes = ⊥
TellBytes (Some files) name bytes = files name ≡ FileBytes bytes

-- the file holds these bytes, which are the text of this state, within the bounds
pub record HoldsState (told : Option (List ℕ → Contents)) (name bytes signature policy : List ℕ) (bounds : Bounds)
    (state : Snapshot) : Type 0 where
  pub under : AreBytesUnder told name bytes
  pub short : length bytes ≤ MOST_STATE_BYTES
  pub text : IsTextOfLines bytes signature policy (lines_of state)
  pub keeps : KeepsBounds bounds state

-- a read of the file failed: its count is one more, and what the files hold is as it was
abbrev pub FailsToRead : (most : ℕ) → List ℕ → FileView → FileView → Type 0
FailsToRead most name before after = ReadsFile name (most + 1) (Err Failed) before after

-- ---- What the words ask for.

-- the words are of a form that names files for a signature and a policy; the bytes of the two, told so, are a signature
-- of these entries, and an accepted policy of these rules under it
pub record AsksPolicy {Gate : Type 0} (Tells : Option (List ℕ → Contents) → List ℕ → List ℕ → Type 0)
    (IsForm : List (List ℕ) → List ℕ → List ℕ → Type 0) (call : Call Gate) (entries : List NameEntry)
    (policy : List Rule) : Type 0 where
  pub signature_file : List ℕ
  pub policy_file : List ℕ
  pub form : IsForm call.words signature_file policy_file
  pub signature_bytes : List ℕ
  pub policy_bytes : List ℕ
  pub signature_told : Tells call.before.files.contents signature_file signature_bytes
  pub is_signature : SpellsSignature signature_bytes entries
  pub policy_told : Tells call.before.files.contents policy_file policy_bytes
  pub is_policy : SpellsPolicy entries policy_bytes policy

-- the words are of such a form, and the bytes of the signature, told so, are refused as one
pub record AsksRefusedSignature {Gate : Type 0} (Tells : Option (List ℕ → Contents) → List ℕ → List ℕ → Type 0)
    (IsForm : List (List ℕ) → List ℕ → List ℕ → Type 0) (call : Call Gate) (why : SignatureRefusal) : Type 0 where
  pub signature_file : List ℕ
  pub policy_file : List ℕ
  pub form : IsForm call.words signature_file policy_file
  pub bytes : List ℕ
  pub told : Tells call.before.files.contents signature_file bytes
  pub refused : IsRefusedSignature why bytes

-- the words are of such a form, and the bytes of the two, told so, are a signature and what is refused as a policy
pub record AsksRefusedPolicy {Gate : Type 0} (Tells : Option (List ℕ → Contents) → List ℕ → List ℕ → Type 0)
    (IsForm : List (List ℕ) → List ℕ → List ℕ → Type 0) (call : Call Gate) (why : PolicyRefusal) : Type 0 where
  pub signature_file : List ℕ
  pub policy_file : List ℕ
  pub form : IsForm call.words signature_file policy_file
  pub signature_bytes : List ℕ
  pub policy_bytes : List ℕ
  pub entries : List NameEntry
  pub signature_told : Tells call.before.files.contents signature_file signature_bytes
  pub is_signature : SpellsSignature signature_bytes entries
  pub policy_told : Tells call.before.files.contents policy_file policy_bytes
  pub refused : IsRefusedPolicy entries why policy_bytes

-- the words name files for the signature and the policy that tell their bytes, and one of them is refused
abbrev pub AsksRefusedFile : {Gate : Type 0} → (List (List ℕ) → List ℕ → List ℕ → Type 0) → Call Gate → Type 0
AsksRefusedFile IsForm call = ((why : SignatureRefusal) × AsksRefusedSignature TellBytes IsForm call why)
    ⊎ ((why : PolicyRefusal) × AsksRefusedPolicy TellBytes IsForm call why)

-- the signature is refused, and nothing was touched
abbrev pub RefusesSignatureFile : {Gate : Type 0} → (List (List ℕ) → List ℕ → List ℕ → Type 0) → Call Gate → Stream
    → SignatureRefusal → Type 0
RefusesSignatureFile IsForm call report why =
    AsksRefusedSignature AreBytesUnder IsForm call why × LeavesAll call report

-- there is a signature, the policy is refused under it, and nothing was touched
abbrev pub RefusesPolicyFile : {Gate : Type 0} → (List (List ℕ) → List ℕ → List ℕ → Type 0) → Call Gate → Stream
    → PolicyRefusal → Type 0
RefusesPolicyFile IsForm call report why = AsksRefusedPolicy AreBytesUnder IsForm call why × LeavesAll call report

-- the signature was not read, or after a signature the policy was not read, and the gate and the report were not
-- touched
pub record MissesFile {Gate : Type 0} (IsForm : List (List ℕ) → List ℕ → List ℕ → Type 0)
    (call : Call Gate) (report : Stream) : Type 0 where
  pub signature_file : List ℕ
  pub policy_file : List ℕ
  pub form : IsForm call.words signature_file policy_file
  pub failed : FailsToRead MOST_FILE_BYTES signature_file call.before.files call.after.files
      ⊎ (((bytes : List ℕ) × (entries : List NameEntry)
      × AreBytesUnder call.before.files.contents signature_file bytes × SpellsSignature bytes entries)
      × FailsToRead MOST_FILE_BYTES policy_file call.before.files call.after.files)
  pub gate : LeavesGate call
  pub silent : report ≡ call.before.report

-- memory ran out before the log was begun, or before anything was said of a policy
abbrev pub RunsOutBefore : {Gate : Type 0} → (List (List ℕ) → List ℕ → List ℕ → Type 0) → Call Gate → Stream → Type 0
RunsOutBefore IsForm call report =
    (signature policy : List ℕ) × IsForm call.words signature policy × LeavesAll call report

-- ---- From where a run of `enforce` starts.

-- the bounds on states of a policy with these plans and guards
abbrev pub state_bounds : List NameEntry → List Plan → List (Formula × List VarId) → Bounds
state_bounds entries plans guards =
    record { entries = entries; plans = plans; guards = map (λ (guard : Formula × List VarId). guard.0) guards }

-- these are the bounds on states of a policy of the rules
pub record IsBounds (entries : List NameEntry) (rules : List Rule) (bounds : Bounds) : Type 0 where
  pub plans : List Plan
  pub guards : List (Formula × List VarId)
  pub planned : ArePlanned entries (all_formulas rules) plans guards
  pub bounds_are : bounds ≡ state_bounds entries plans guards

-- the file to resume holds these bytes, which are the text of a state with this clock; where no state is resumed
-- there are no bytes, and the clock is 0
abbrev pub HoldsStart : (resumed : Option (List ℕ)) → Option (List ℕ → Contents) → (signature policy : List ℕ)
    → Bounds → (state : List ℕ) → (clock : ℕ) → Type 0
HoldsStart None told signature policy bounds state clock = (state ≡ []) × (clock ≡ 0)
HoldsStart (Some file) told signature policy bounds state clock =
    (kept : Snapshot) × HoldsState told file state signature policy bounds kept × (clock ≡ kept.clock)

-- the run may start there: from nothing where no state is resumed, and else from whatever trace and clock the bytes
-- are the state of. The bytes of a state that no trace has give no start
abbrev pub IsStartOf : (resumed : Option (List ℕ)) → List NameEntry → List Rule → (signature policy state : List ℕ)
    → Start → Type 0
IsStartOf None entries rules signature policy state start = start ≡ from_nothing
IsStartOf (Some file) entries rules signature policy state start =
    IsReadyState entries rules signature policy start state

-- ---- The log that is told, and the faults that are met.

-- the bytes that were taken between two moments of a gate
abbrev pub taken_between : Exchange → Exchange → List ℕ
taken_between x y = take (y.taken - x.taken) (input_left x)

-- the gate tells, and its whole input is a log that is accepted to its end
pub record IsWholeLog (r : LogReading) (before : Option Exchange) : Type 0 where
  pub gate : Exchange
  pub told : before ≡ Some gate
  pub read : List LogItem
  pub log : IsLog r.entries r.mode (input_left gate) read None
  pub rising : NeverFall r.clock (records_of read)
  pub below : length (input_left gate) < most_log_bytes

-- the words ask for a log that is read so, and the accepted records of the bytes taken are followed by a refusal
pub record MeetsRefusedRecord {Gate : Type 0} (AsksToRead : LogReading → Type 0) (call : Call Gate) : Type 0 where
  pub reading : LogReading
  pub asks : AsksToRead reading
  pub x : Exchange
  pub told : call.before.gate.told ≡ Some x
  pub y : Exchange
  pub told' : call.after.gate.told ≡ Some y
  pub read : List LogItem
  pub rest : List ℕ
  pub accepts : AcceptsRecords reading.entries reading.mode reading.clock (taken_between x y) read rest
  pub why : RecordRefusal
  pub refused : IsRestRefusedAs (taken_log reading read (taken_between x y) rest) call.after.gate why

-- a read of a file failed, or one of the gate
abbrev pub MeetsReadFault : {Gate : Type 0} → Call Gate → Type 0
MeetsReadFault call = ((name : List ℕ) × (call.after.files.read_faults name ≢ call.before.files.read_faults name))
    ⊎ (call.after.gate.read_faults ≢ call.before.gate.read_faults)

-- a write of a file failed, or one to the gate
abbrev pub MeetsWriteFault : {Gate : Type 0} → Call Gate → Type 0
MeetsWriteFault call = ((name : List ℕ) × (call.after.files.write_faults name ≢ call.before.files.write_faults name))
    ⊎ (call.after.gate.write_faults ≢ call.before.gate.write_faults)
