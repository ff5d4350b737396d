-- The intake of a log: what it holds, and what a turn does to it in which no record is taken.
use Rattle.std.specs.Prelude.{◌+◌, ◌<◌, ◌≤◌, ℕ, List, None, ◌≡◌, [], length, Option, ◌⊎◌, ◌-◌, Some, ◌++◌}
use Rattle.enf_io.specs.machine.StreamCalls.{Took, TookNothing}
use Rattle.enf_io.specs.meaning.Exchange.{Exchange, Stream, IsAtEnd}
use Rattle.enf_io.specs.meaning.Files.{one_more}
use Rattle.signature.specs.declared.entries.NameEntry.{NameEntry}
use Rattle.log_stream.specs.declared.items.LogMode.{LogMode}
use Rattle.log_stream.specs.machine.LogReaders.{Reader, fed}
use Rattle.log_stream.specs.meaning.LogGrammar.{IsTruncated, behind_blanks, RefusesFront, IsPending}
use Rattle.enf_run.specs.declared.endings.Cut.{Cut}
use Rattle.enf_run.specs.declared.intake.Intake.{Intake}
use Rattle.enf_run.specs.declared.intake.Piece.{Piece}
use Rattle.enf_run.specs.declared.intake.Verdict.{Verdict}
use Rattle.enf_run.specs.declared.refusals.RecordRefusal.{RecordRefusal}
use Rattle.enf_run.specs.meaning.Headline.{most_log_bytes}
use Rattle.enf_run.specs.meaning.Readings.{AtEachNext, most_read_bytes, IsFallingRecord}
use Rattle.log_stream.specs.declared.items.LogRefusal.TheVariants as refusals
use Rattle.enf_run.specs.declared.endings.Cut.TheVariants as cuts
use Rattle.enf_run.specs.declared.intake.Piece.TheVariants as pieces
use Rattle.enf_run.specs.declared.intake.Verdict.TheVariants as verdicts
use Rattle.enf_run.specs.declared.refusals.RecordRefusal.TheVariants as records

-- from each of these numbers to the next is a piece that one read may take
abbrev pub AreInPieces : List ℕ → Type 0
AreInPieces counts = AtEachNext (λ from to. to ≤ from + most_read_bytes) counts

-- each of these numbers is greater than the one before it
abbrev pub CountsRise : List ℕ → Type 0
CountsRise counts = AtEachNext (λ from to. from < to) counts

-- the reader of a log that has refused nothing, with a rest
abbrev pub reads_in : List NameEntry → LogMode → List ℕ → Reader
reads_in entries mode rest = record { entries = entries; mode = mode; rest = rest; refused = None }

-- an intake of which nothing was taken yet
pub record IsNewIntake (entries : List NameEntry) (mode : LogMode) (intake : Intake) : Type 0 where
  pub reader : intake.reader ≡ reads_in entries mode []
  pub accepted : intake.accepted ≡ 0
  pub taken : intake.taken ≡ 0
  pub room : length intake.piece.items ≡ most_read_bytes

-- no refusal was answered, no more was taken than may be, and there is room for a piece
pub record IsIntakeOpen (intake : Intake) : Type 0 where
  pub refused : intake.reader.refused ≡ None
  pub taken : intake.taken ≤ most_log_bytes
  pub room : length intake.piece.items ≡ most_read_bytes

-- a read took these bytes, no more than one read may take, and no more than may still be taken
pub record TakesBytes (left : ℕ) (bytes : List ℕ) (told told' : Option Exchange) : Type 0 where
  pub took : Took bytes told told'
  pub piece : length bytes ≤ most_read_bytes
  pub within : length bytes ≤ left

-- a piece was taken and fed
pub record TakesPiece (count left : ℕ) (reader reader' : Reader) (before after : Stream) : Type 0 where
  pub bytes : List ℕ
  pub takes : TakesBytes left bytes before.told after.told
  pub count_is : length bytes ≡ count
  pub some : 0 < count
  pub fed_is : reader' ≡ fed reader bytes
  pub reads : after.read_faults ≡ before.read_faults

-- what a read did, where so many bytes may still be taken; with none left there is no read
abbrev pub ReadsPiece : Piece → ℕ → Reader → Reader → Stream → Stream → Type 0
ReadsPiece (pieces.More count) left reader reader' before after = TakesPiece count left reader reader' before after
ReadsPiece pieces.Ended left reader reader' before after =
    (0 < left) × (reader' ≡ reader) × Took [] before.told after.told × IsAtEnd after.told
    × (after.read_faults ≡ before.read_faults)
ReadsPiece pieces.Fault left reader reader' before after =
    (reader' ≡ reader) × TookNothing before.told after.told × (after.read_faults ≡ one_more before.read_faults)
ReadsPiece pieces.Limit left reader reader' before after = (left ≡ 0) × (reader' ≡ reader) × (after ≡ before)

-- memory ran out at a read, or after one
abbrev pub LosesPiece : ℕ → Stream → Stream → Type 0
LosesPiece left before after =
    ((after.told ≡ before.told) ⊎ ((bytes : List ℕ) × TakesBytes left bytes before.told after.told))
    × (after.read_faults ≡ before.read_faults)

-- what the gate held back was not handed on, since that failed; or memory ran out, then or at a read, or after one
abbrev pub CutsPiece : ℕ → Stream → Stream → Cut → Type 0
CutsPiece left before after cuts.WriteFault = (after.told ≡ before.told) × (0 < after.held)
    × (after.write_faults ≡ one_more before.write_faults) × (after.read_faults ≡ before.read_faults)
CutsPiece left before after cuts.NoMemory =
    LosesPiece left before after × (after.write_faults ≡ before.write_faults)

-- what the end of the log makes of a rest that has no whole record
abbrev pub JudgesLogEnd : List ℕ → Verdict → Type 0
JudgesLogEnd rest verdict =
    ((verdict ≡ verdicts.Accepted) × (behind_blanks rest ≡ []))
    ⊎ ((verdict ≡ verdicts.Refused (records.Log refusals.Truncated)) × IsTruncated rest)

-- how many bytes may still be taken
abbrev pub takeable_bytes : Intake → ℕ
takeable_bytes intake = most_log_bytes - intake.taken

-- a piece was taken
pub record GetsPiece (intake intake' : Intake) (before after : Stream) : Type 0 where
  pub bytes : List ℕ
  pub takes : TakesBytes (takeable_bytes intake) bytes before.told after.told
  pub some : 0 < length bytes
  pub reader : intake'.reader ≡ fed intake.reader bytes
  pub accepted : intake'.accepted ≡ intake.accepted
  pub taken : intake'.taken ≡ intake.taken + length bytes
  pub reads : after.read_faults ≡ before.read_faults

-- a read met the end of the input
pub record ReadMeetsEnd (taken : ℕ) (before after : Stream) : Type 0 where
  pub took : Took [] before.told after.told
  pub at_end : IsAtEnd after.told
  pub below : taken < most_log_bytes
  pub reads : after.read_faults ≡ before.read_faults

-- the device is as it was
abbrev pub IsStreamUntouched : Stream → Stream → Type 0
IsStreamUntouched before after = (after.told ≡ before.told) × (after.read_faults ≡ before.read_faults)

-- the log was ended after a rest that has no whole record: nothing is left of it, a read failed, a record was begun
-- and not ended, or as many bytes were taken as may be
abbrev pub EndsIntake : List ℕ → (taken : ℕ) → (before after : Stream) → Verdict → Type 0
EndsIntake rest taken before after verdicts.Accepted = (behind_blanks rest ≡ []) × ReadMeetsEnd taken before after
EndsIntake rest taken before after verdicts.Fault =
    TookNothing before.told after.told × (after.read_faults ≡ one_more before.read_faults)
EndsIntake rest taken before after (verdicts.Refused why) =
    ((why ≡ records.Log refusals.Truncated) × IsTruncated rest × ReadMeetsEnd taken before after)
    ⊎ ((why ≡ records.InputLimit) × (taken ≡ most_log_bytes) × IsStreamUntouched before after)

-- a piece was taken, or the log was ended
abbrev pub AnswersRead : Option Verdict → Intake → Intake → Stream → Stream → Type 0
AnswersRead None intake intake' before after = GetsPiece intake intake' before after
AnswersRead (Some verdict) intake intake' before after =
    (intake'.accepted ≡ intake.accepted) × EndsIntake intake.reader.rest intake.taken before after verdict

-- why the record at the front is refused: by its reader, or since its time is below the clock
abbrev pub RefusesNext : List NameEntry → LogMode → List ℕ → ℕ → RecordRefusal → Type 0
RefusesNext entries mode rest clock (records.Log why) = RefusesFront entries mode rest why
RefusesNext entries mode rest clock (records.Falling given at) =
    (at ≡ clock) × IsFallingRecord entries mode clock rest given
RefusesNext entries mode rest clock records.InputLimit = ⊥

-- a turn took a piece, where no record is whole; blanks are let go
pub record TurnTakesPiece (entries : List NameEntry) (mode : LogMode) (intake intake' : Intake) (before after : Stream)
    : Type 0 where
  pub pending : IsPending intake.reader.rest
  pub bytes : List ℕ
  pub takes : TakesBytes (takeable_bytes intake) bytes before.told after.told
  pub some : 0 < length bytes
  pub reader : intake'.reader ≡ reads_in entries mode (behind_blanks intake.reader.rest ++ bytes)
  pub accepted : intake'.accepted ≡ intake.accepted
  pub taken : intake'.taken ≡ intake.taken + length bytes
  pub reads : after.read_faults ≡ before.read_faults

-- a turn ended the log: the record at the front is refused, or none is whole and the intake was ended
abbrev pub EndsTurn : List NameEntry → LogMode → (clock : ℕ) → Intake
    → (before after : Stream) → Verdict → Type 0
EndsTurn entries mode clock intake before after verdict =
    ((why : RecordRefusal) × (verdict ≡ verdicts.Refused why)
    × RefusesNext entries mode intake.reader.rest clock why × IsStreamUntouched before after)
    ⊎ (IsPending intake.reader.rest × EndsIntake intake.reader.rest intake.taken before after verdict)

-- a piece was taken, and was lost since memory ran out
pub record LosesBytes (intake : Intake) (told told' : Option Exchange) : Type 0 where
  pub pending : IsPending intake.reader.rest
  pub bytes : List ℕ
  pub takes : TakesBytes (takeable_bytes intake) bytes told told'
