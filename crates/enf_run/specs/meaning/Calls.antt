-- A call of `run`: the words of its command line, the forms that these have, and its devices before and after it.
use Rattle.std.specs.declared.alloc.Global.{Global}
use Rattle.std.specs.Prelude.{ℕ, List, map, String, string_bytes, ◌≡◌, ◌≤◌, length, ◌∷◌, codes, []}
use Rattle.std.specs.Str.Parse.{IsNumeral, digits_value}
use Rattle.enf_io.specs.meaning.Exchange.{Stream}
use Rattle.enf_io.specs.meaning.Files.{FileView}
use Rattle.enf_run.specs.meaning.Headline.{States, state_words}

-- ---- The words of the command line, and the limits of the numbers in them.

-- the greatest start of a generated log, and the greatest number of its steps
abbrev pub most_start : ℕ
most_start = 2147483647

abbrev pub most_steps : ℕ
most_steps = 1000000

-- the bytes of each word
abbrev pub texts_of : List (String Global) → List (List ℕ)
texts_of words = map string_bytes words

-- one to ten decimal digits that write the number, which is at most a limit; leading zeros count for nothing
pub record IsNumberWord (most : ℕ) (word : List ℕ) (number : ℕ) : Type 0 where
  pub numeral : IsNumeral 10 word
  pub short : length word ≤ 10
  pub value : number ≡ digits_value 10 word
  pub within : number ≤ most

-- `enforce SIG POLICY`, and after it `--resume FILE` where a state is resumed, and `--save FILE` where one is saved
abbrev pub IsEnforceForm : States → List (List ℕ) → List ℕ → List ℕ → Type 0
IsEnforceForm states words signature policy = words ≡ codes "enforce" ∷ signature ∷ policy ∷ state_words states

-- `enforce SIG POLICY`, and after it some files for states or none
abbrev pub NamesEnforce : List (List ℕ) → List ℕ → List ℕ → Type 0
NamesEnforce words signature policy = (states : States) × IsEnforceForm states words signature policy

-- `check SIG POLICY`
abbrev pub IsCheckForm : List (List ℕ) → List ℕ → List ℕ → Type 0
IsCheckForm words signature policy = words ≡ codes "check" ∷ signature ∷ policy ∷ []

-- `audit SIG POLICY`
abbrev pub IsAuditForm : List (List ℕ) → List ℕ → List ℕ → Type 0
IsAuditForm words signature policy = words ≡ codes "audit" ∷ signature ∷ policy ∷ []

-- a form of a command with two numbers: the start of a generated log, and the number of its steps
pub record IsNumberedForm (command : List ℕ) (words : List (List ℕ)) (start steps : ℕ) : Type 0 where
  pub start_word : List ℕ
  pub steps_word : List ℕ
  pub form : words ≡ command ∷ start_word ∷ steps_word ∷ []
  pub is_start : IsNumberWord most_start start_word start
  pub are_steps : IsNumberWord most_steps steps_word steps

-- `gen START N`
abbrev pub IsGenerateForm : List (List ℕ) → ℕ → ℕ → Type 0
IsGenerateForm words start steps = IsNumberedForm (codes "gen") words start steps

-- `drill START N`
abbrev pub IsDrillForm : List (List ℕ) → ℕ → ℕ → Type 0
IsDrillForm words start steps = IsNumberedForm (codes "drill") words start steps

-- the words match no form
pub record MatchNoForm (words : List (List ℕ)) : Type 0 where
  pub enforce : (states : States) (signature policy : List ℕ) → IsEnforceForm states words signature policy → ⊥
  pub check : (signature policy : List ℕ) → IsCheckForm words signature policy → ⊥
  pub audit : (signature policy : List ℕ) → IsAuditForm words signature policy → ⊥
  pub generate : (start steps : ℕ) → IsGenerateForm words start steps → ⊥
  pub drill : (start steps : ℕ) → IsDrillForm words start steps → ⊥

-- ---- The forms of the words: one for each command, and none.

pub data Form : Type 0 where
  Enforce : Form
  Check : Form
  Audit : Form
  Generate : Form
  Drill : Form
  NoForm : Form

-- the words are of the form
abbrev pub AreOfForm : Form → List (List ℕ) → Type 0
AreOfForm Enforce words = (states : States) × (signature policy : List ℕ) × IsEnforceForm states words signature policy
AreOfForm Check words = (signature policy : List ℕ) × IsCheckForm words signature policy
AreOfForm Audit words = (signature policy : List ℕ) × IsAuditForm words signature policy
AreOfForm Generate words = (start steps : ℕ) × IsGenerateForm words start steps
AreOfForm Drill words = (start steps : ℕ) × IsDrillForm words start steps
AreOfForm NoForm words = MatchNoForm words

-- the form of the words, which are of no other
pub record FormOf (words : List (List ℕ)) : Type 0 where
  pub form : Form
  pub is_form : AreOfForm form words
  pub alone : (other : Form) → AreOfForm other words → other ≡ form

-- ---- The devices.

-- the devices at one moment: the gate itself, and what is seen of the gate, the files and the report
pub record Devices (Gate : Type 0) : Type 0 where
  pub gate_itself : Gate
  pub gate : Stream
  pub files : FileView
  pub report : Stream

abbrev pub devices_of : {Gate : Type 0} → Gate → Stream → FileView → Stream → Devices Gate
devices_of gate_itself gate files report =
    record { gate_itself = gate_itself; gate = gate; files = files; report = report }

pub record Call (Gate : Type 0) : Type 0 where
  pub words : List (List ℕ)
  pub before : Devices Gate
  pub after : Devices Gate

abbrev pub call_of : {Gate : Type 0} → List (String Global) → Devices Gate → Devices Gate → Call Gate
call_of words before after = record { words = texts_of words; before = before; after = after }

-- no call was made on the gate: it is the same object, unchanged
abbrev pub LeavesGate : {Gate : Type 0} → Call Gate → Type 0
LeavesGate call = (call.after.gate_itself ≡ call.before.gate_itself) × (call.after.gate ≡ call.before.gate)

-- the files are as they were: what they hold, and the counts of their faults
abbrev pub LeavesFiles : {Gate : Type 0} → Call Gate → Type 0
LeavesFiles call = call.after.files ≡ call.before.files

-- nothing was touched: neither the gate, nor the files, nor the report
pub record LeavesAll {Gate : Type 0} (call : Call Gate) (report : Stream) : Type 0 where
  pub gate : LeavesGate call
  pub files : LeavesFiles call
  pub silent : report ≡ call.before.report
