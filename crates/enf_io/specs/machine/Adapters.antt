-- What is known of the adapters over std: which call of the outside each of theirs is, and how errors are counted.
use Rattle.std.specs.IoError.{error_kind}
use Rattle.std.specs.Io.KnownBytes.{append_known}
use Rattle.std.specs.Prelude.{ℕ, None, false, Result, Ok, Err, ◌==◌, List, [], ◌∷◌, if◌then◌else◌}
use Rattle.std.specs.Prelude.{◌≡◌, ◌<◌, ◌++◌, ◌⊎◌, drop, length, ⊤, Contains, IfErr, OnOk, Option}
use Rattle.std.specs.declared.io.Error.{Error}
use Rattle.std.specs.declared.io.ErrorKind.{ErrorKind}
use Rattle.std.specs.declared.io.ErrorKind.TheVariants.{Interrupted, OutOfMemory}
use Rattle.enf_io.specs.declared.adapters.TheConstants.{MOST_INTERRUPTS}
use Rattle.enf_io.specs.declared.devices.IoRefusal.{IoRefusal}
use Rattle.enf_io.specs.declared.devices.IoRefusal.TheVariants.{Failed, NoMemory}
use Rattle.enf_io.specs.meaning.Exchange.{Stream}
use Rattle.enf_io.specs.meaning.Files.{FileView}

-- a writer, and the errors at writes so far
pub record AdaptedOutput (O : Type 0) : Type 0 where
  pub writer : O
  pub write_faults : ℕ

-- a reader, the errors at reads so far, the output, what is held back of the bytes given to it, and at how many reads
-- some were
pub record AdaptedPair (I O : Type 0) : Type 0 where
  pub reader : I
  pub read_faults : ℕ
  pub output : AdaptedOutput O
  pub held : List ℕ
  pub late_reads : ℕ

-- files, and the errors so far, at reads and at writes
pub record AdaptedFiles (F : Type 0) : Type 0 where
  pub files : F
  pub read_faults : ℕ
  pub write_faults : ℕ

-- a writer of the outside tells no bytes, and nothing given to it is held back
abbrev pub untold_output : {O : Type 0} → AdaptedOutput O → Stream
untold_output x =
    record { told = None; read_faults = 0; write_faults = x.write_faults; held = 0; late_reads = 0 }

-- nor do a reader and a writer
abbrev pub untold_pair : {I O : Type 0} → AdaptedPair I O → Stream
untold_pair x = record {
  told = None;
  read_faults = x.read_faults;
  write_faults = x.output.write_faults;
  held = length x.held;
  late_reads = x.late_reads;
}

-- the bytes that a writer has, where they are known, and those that are held back behind them
abbrev pub with_held : {I O : Type 0} → (O → Option (List ℕ)) → AdaptedPair I O → Option (List ℕ)
with_held contents x = append_known (contents x.output.writer) x.held

-- files of the outside: no contents, and a fault at one counts for every name
abbrev pub untold_files : {F : Type 0} → AdaptedFiles F → FileView
untold_files x = record {
  contents = None;
  is_calm = false;
  read_faults = λ _. x.read_faults;
  write_faults = λ _. x.write_faults;
}

-- the refusal for an error of this kind: only running out of memory is no fault
abbrev pub refusal_for : ErrorKind → IoRefusal
refusal_for OutOfMemory = NoMemory
refusal_for _ = Failed

-- what an adapter answers where the outside answers so
abbrev pub adapted : {T : Type 0} → Result T Error → Result T IoRefusal
adapted (Ok value) = Ok value
adapted (Err error) = Err (refusal_for (error_kind error))

-- a writer that takes so many bytes of a piece: one that takes nothing of it has failed
abbrev pub written_count : List ℕ → ℕ → Result ℕ IoRefusal
written_count [] count = Ok count
written_count (byte ∷ bytes) count = if count == 0 then Err Failed else Ok count

-- what an adapter answers where a writer that was given this piece answers so
abbrev pub adapted_write : List ℕ → Result ℕ Error → Result ℕ IoRefusal
adapted_write bytes (Ok count) = written_count bytes count
adapted_write bytes (Err error) = Err (refusal_for (error_kind error))

-- a call is one call of the outside, and answers what is made of its answer
pub record IsOneCall {A B : Type 0} (gives : A → Type 0) (made : A → B) (result : B) : Type 0 where
  pub answer : A
  pub called : gives answer
  pub told : result ≡ made answer

-- a call of the outside answers with an error of this kind
abbrev pub FailsBy : {T : Type 0} → ErrorKind → Result T Error → Type 0
FailsBy kind (Ok value) = ⊥
FailsBy kind (Err error) = error_kind error ≡ kind

-- it was interrupted: nothing failed, and nothing was done
abbrev pub WasInterrupted : {T : Type 0} → Result T Error → Type 0
WasInterrupted answer = FailsBy Interrupted answer

-- calls of the outside, one after another, which were interrupted
abbrev pub AreInterrupted : {O : Type 0} → (O → List ℕ → Result ℕ Error → O → Type 0) → (passed : List (List ℕ))
    → O → O → Type 0
AreInterrupted gives [] before after = after ≡ before
AreInterrupted {O = O} gives (bytes ∷ passed) before after = (answer : Result ℕ Error) × (between : O)
    × WasInterrupted answer × gives before bytes answer between × AreInterrupted gives passed between after

-- a call of the outside that is done again while it is interrupted, up to so often, with bytes of which this holds
pub record DoneAgain {O : Type 0} (Alike : List ℕ → Type 0) (gives : O → List ℕ → Result ℕ Error → O → Type 0)
    (before : O) (bytes : List ℕ) (answer : Result ℕ Error) (after : O) : Type 0 where
  pub passed : List (List ℕ)
  pub between : O
  pub interrupted : AreInterrupted gives passed before between
  pub alike : (other : List ℕ) → Contains passed other → Alike other
  pub called : gives between bytes answer after
  pub often : WasInterrupted answer → length passed ≡ MOST_INTERRUPTS

-- a read so, whatever an interrupted one left in the buffer
abbrev pub ReadsAgain : {O : Type 0} → (O → List ℕ → Result ℕ Error → O → Type 0) → O → List ℕ → Result ℕ Error → O
    → Type 0
ReadsAgain gives before buf answer after = DoneAgain (λ left. ⊤) gives before buf answer after

-- a write so, of the same bytes
abbrev pub WritesAgain : {O : Type 0} → (O → List ℕ → Result ℕ Error → O → Type 0) → O → List ℕ → Result ℕ Error → O
    → Type 0
WritesAgain gives before bytes answer after = DoneAgain (λ given. given ≡ bytes) gives before bytes answer after

-- calls of a writer, one after another: each is given what those before it left, and takes so many bytes of that, not
-- none
abbrev pub TakesInTurns : {O : Type 0} → (O → List ℕ → Result ℕ Error → O → Type 0) → O → (bytes : List ℕ)
    → (counts : List ℕ) → (left : List ℕ) → O → Type 0
TakesInTurns gives before bytes [] left after = (left ≡ bytes) × (after ≡ before)
TakesInTurns {O = O} gives before bytes (count ∷ counts) left after = (0 < count) × (between : O)
    × gives before bytes (Ok count) between × TakesInTurns gives between (drop count bytes) counts left after

-- what was held back went to a writer in turns, until nothing was left; or until one call failed, the last, and what it
-- was given is held back still
pub record HandsOn {O T : Type 0} (gives : O → List ℕ → Result ℕ Error → O → Type 0) (result : Result T IoRefusal)
    (held left : List ℕ) (before after : O) : Type 0 where
  pub counts : List ℕ
  pub between : O
  pub turns : TakesInTurns gives before held counts left between
  pub whole : OnOk result ((left ≡ []) × (after ≡ between))
  pub failed : IfErr result (λ why.
      IsOneCall (λ answer. gives between left answer after) (adapted_write left) (Err why))

-- what a flush answers where what is held back was handed on so: each refusal is a fault of it
abbrev pub flush_answer : {T : Type 0} → Result T IoRefusal → Result T IoRefusal
flush_answer (Ok value) = Ok value
flush_answer (Err why) = Err Failed

-- a flush hands on what is held back
pub record FlushesHeld {O T : Type 0} (gives : O → List ℕ → Result ℕ Error → O → Type 0) (result : Result T IoRefusal)
    (held left : List ℕ) (before after : O) : Type 0 where
  pub handed : Result T IoRefusal
  pub calls : HandsOn gives handed held left before after
  pub told : result ≡ flush_answer handed

-- a piece was kept behind what is held back, with no call
pub record KeepsPiece {O : Type 0} (bytes : List ℕ) (result : Result ℕ IoRefusal) (held held' : List ℕ)
    (before after : O) : Type 0 where
  pub all : result ≡ Ok (length bytes)
  pub behind : held' ≡ held ++ bytes
  pub same : after ≡ before

-- what was held back was handed on, all of it, and then the piece was kept, or went on by one call
pub record SendsPiece {O : Type 0} (gives : O → List ℕ → Result ℕ Error → O → Type 0) (bytes : List ℕ)
    (result : Result ℕ IoRefusal) (held held' : List ℕ) (before after : O) : Type 0 where
  pub between : O
  pub first : HandsOn {T = Unit {0}} gives (Ok tt) held [] before between
  pub piece : KeepsPiece bytes result [] held' between after ⊎ ((held' ≡ [])
      × IsOneCall (λ answer. gives between bytes answer after) (adapted_write bytes) result)

-- how a piece is given to a writer past what is held back; where that was not handed on, nothing of the piece is taken
abbrev pub GivesPiece : {O : Type 0} → (O → List ℕ → Result ℕ Error → O → Type 0) → (bytes : List ℕ)
    → Result ℕ IoRefusal → (held held' : List ℕ) → (before after : O) → Type 0
GivesPiece gives bytes result held held' before after = KeepsPiece bytes result held held' before after
    ⊎ (SendsPiece gives bytes result held held' before after
    ⊎ ((why : IoRefusal) × (result ≡ Err why) × HandsOn {T = Unit {0}} gives (Err why) held held' before after))

-- a file that one call opened is asked by one call more, which takes it; where it was not opened, that is the answer
abbrev pub AsksFile : {F T : Type 0} → (F → Result T Error → Type 0) → Result F Error → Result T Error → Type 0
AsksFile asks (Ok file) answer = asks file answer
AsksFile asks (Err error) answer = answer ≡ Err error

pub record AsksOpened {F T : Type 0} (opens : Result F Error → Type 0) (asks : F → Result T Error → Type 0)
    (answer : Result T Error) : Type 0 where
  pub opened : Result F Error
  pub called : opens opened
  pub asked : AsksFile asks opened answer
