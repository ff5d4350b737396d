-- What a read, a write, a flush, and a write in full do to a gate or a sink.
use Rattle.std.specs.Option.{option_map}
use Rattle.std.specs.Prelude.{ℕ, ◌+◌, [], ◌∷◌, ◌++◌, length, ◌≡◌, List, take, Option, IfSome}
use Rattle.std.specs.Prelude.{◌≤◌, Result, IfOk, IsErrOf, ◌<◌, OnErr, Ok, Err, OnOk, IfErr, ◌==◌, if◌then◌else◌}
use Rattle.enf_io.specs.declared.devices.IoRefusal.{IoRefusal}
use Rattle.enf_io.specs.declared.devices.IoRefusal.TheVariants.{Failed, NoMemory}
use Rattle.enf_io.specs.declared.writing.WriteRefusal.{WriteRefusal}
use Rattle.enf_io.specs.meaning.Exchange.{Exchange, input_left, IsAtEnd, Stream}
use Rattle.enf_io.specs.meaning.ExchangeGrowth.{Gave}
use Rattle.enf_io.specs.meaning.FileCalls.{faults_after}
use Rattle.enf_io.specs.meaning.Files.{one_more}
use Rattle.enf_io.specs.declared.writing.WriteRefusal.TheVariants as refusal

-- an exchange after so many bytes more were taken
abbrev pub with_taken : ℕ → Exchange → Exchange
with_taken count x = record { input = x.input; taken = x.taken + count; given = x.given; marks = x.marks }

-- an exchange after a read began
abbrev pub with_read_mark : Exchange → Exchange
with_read_mark x = record {
  input = x.input;
  taken = x.taken;
  given = x.given;
  marks = x.marks ++ (x.taken, length x.given) ∷ [];
}

-- a read began, and from a device that tells these bytes were taken, the next of its input; else it is as it was
pub record Took (bytes : List ℕ) (before after : Option Exchange) : Type 0 where
  pub next : IfSome before (λ x. take (length bytes) (input_left x) ≡ bytes)
  pub counted : after ≡ option_map (λ x. with_taken (length bytes) (with_read_mark x)) before

-- a read began, and took nothing
abbrev pub TookNothing : Option Exchange → Option Exchange → Type 0
TookNothing before after = after ≡ option_map with_read_mark before

-- at how many reads some bytes were held back, after a read that began with so many of them
abbrev pub late_after : (held late : ℕ) → ℕ
late_after held late = if held == 0 then late else one_more late

-- a read that leaves these bytes in its buffer: it gives the next bytes of the input, and 0 only at the end; each
-- read but one for which memory ran out notes its mark
pub record Reads (buf : List ℕ) (result : Result ℕ IoRefusal) (before after : Stream) : Type 0 where
  pub within : IfOk result (λ count. count ≤ length buf)
  pub took : IfOk result (λ count. Took (take count buf) before.told after.told)
  pub ends : IfOk result (λ count. count ≡ 0 → IsAtEnd before.told)
  pub failed : IsErrOf result Failed → TookNothing before.told after.told
  pub no_memory : IsErrOf result NoMemory → after.told ≡ before.told
  pub reads : after.read_faults ≡ faults_after result before.read_faults
  pub writes : after.write_faults ≡ before.write_faults
  pub held : after.held ≡ before.held
  pub late : after.late_reads ≡ late_after before.held before.late_reads

-- how many bytes a write took
abbrev pub count_taken : Result ℕ IoRefusal → ℕ
count_taken (Ok count) = count
count_taken (Err why) = 0

-- a write of these bytes: it gives the front of them, and something of bytes that are not none; some of what it gives
-- may be held back
pub record Writes (bytes : List ℕ) (result : Result ℕ IoRefusal) (before after : Stream) : Type 0 where
  pub within : IfOk result (λ count. count ≤ length bytes)
  pub some : IfOk result (λ count. 0 < length bytes → 0 < count)
  pub gave : IfOk result (λ count. Gave (take count bytes) before.told after.told)
  pub refused : OnErr result (after.told ≡ before.told)
  pub writes : after.write_faults ≡ faults_after result before.write_faults
  pub reads : after.read_faults ≡ before.read_faults
  pub held : after.held ≤ before.held + count_taken result
  pub late : after.late_reads ≡ before.late_reads

-- a flush: what is held back is handed on, all of it or, where it fails, not all; no byte is taken or given. Want of
-- memory is a fault of it too
pub record Flushes {T : Type 0} (result : Result T IoRefusal) (before after : Stream) : Type 0 where
  pub told : after.told ≡ before.told
  pub whole : OnOk result (after.held ≡ 0)
  pub some_left : OnErr result (0 < after.held)
  pub failed : IfErr result (λ why. why ≡ Failed)
  pub part : after.held ≤ before.held
  pub writes : after.write_faults ≡ faults_after result before.write_faults
  pub reads : after.read_faults ≡ before.read_faults
  pub late : after.late_reads ≡ before.late_reads

-- how many bytes were written before the refusal
abbrev pub written_before : WriteRefusal → ℕ
written_before (refusal.WriteFault written) = written
written_before (refusal.NoMemory written) = written

-- the refusal of a turn, after so many bytes were written
abbrev pub refused_after : ℕ → IoRefusal → WriteRefusal
refused_after written Failed = refusal.WriteFault written
refused_after written NoMemory = refusal.NoMemory written

-- the count of write faults after a write: one more where it failed by a fault
abbrev pub write_faults_after : {T : Type 0} → Result T WriteRefusal → ℕ → ℕ
write_faults_after (Ok value) count = count
write_faults_after (Err (refusal.WriteFault written)) count = one_more count
write_faults_after (Err (refusal.NoMemory written)) count = count

-- all the bytes were given, or at a refusal just so many of the first as it says, and not all
pub record WritesAll {T : Type 0} (bytes : List ℕ) (result : Result T WriteRefusal) (before after : Stream)
    : Type 0 where
  pub whole : OnOk result (Gave bytes before.told after.told)
  pub part : IfErr result (λ why. Gave (take (written_before why) bytes) before.told after.told)
  pub not_whole : IfErr result (λ why. written_before why < length bytes)
  pub writes : after.write_faults ≡ write_faults_after result before.write_faults
  pub reads : after.read_faults ≡ before.read_faults
  pub late : after.late_reads ≡ before.late_reads
