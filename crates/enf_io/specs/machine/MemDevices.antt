-- What the devices over memory whose calls may fail tell of themselves, and what a call leaves of them.
use Rattle.std.specs.List.{list_any}
use Rattle.std.specs.Prelude.{ℕ, List, ◌+◌, ◌++◌, take, drop, Result, Ok, Err, ◌∷◌, [], length, Some}
use Rattle.std.specs.Prelude.{◌==◌, Bool, Option, None, if◌then◌else◌, false}
use Rattle.enf_io.specs.declared.devices.IoRefusal.{IoRefusal}
use Rattle.enf_io.specs.declared.devices.IoRefusal.TheVariants.{Failed, NoMemory}
use Rattle.enf_io.specs.declared.turns.Turn.{Turn}
use Rattle.enf_io.specs.machine.KeptFiles.{contents_in, front_of}
use Rattle.enf_io.specs.meaning.Exchange.{Stream}
use Rattle.enf_io.specs.meaning.Files.{one_more, FileView}

-- the bytes given, the turns of the writes to come, and the count of write faults
pub record MemOutput : Type 0 where
  pub given : List ℕ
  pub turns : List Turn
  pub write_faults : ℕ

-- an output after a write that answered so: running out of memory leaves all, and a fault takes its turn
abbrev pub after_write : Result ℕ IoRefusal → List ℕ → MemOutput → MemOutput
after_write (Ok count) bytes x = record {
  given = x.given ++ take count bytes;
  turns = drop 1 x.turns;
  write_faults = x.write_faults;
}
after_write (Err Failed) bytes x = record {
  given = x.given;
  turns = drop 1 x.turns;
  write_faults = one_more x.write_faults;
}
after_write (Err NoMemory) bytes x = x

-- an input and how much of it was taken, the marks, the turns of the reads to come and their faults, the output
pub record MemExchange : Type 0 where
  pub input : List ℕ
  pub taken : ℕ
  pub marks : List (ℕ × ℕ)
  pub turns : List Turn
  pub read_faults : ℕ
  pub output : MemOutput

-- the input that was not taken yet
abbrev pub mem_input_left : MemExchange → List ℕ
mem_input_left x = drop x.taken x.input

-- the marks, after a read began
abbrev pub marks_after_read : MemExchange → List (ℕ × ℕ)
marks_after_read x = x.marks ++ (x.taken, length x.output.given) ∷ []

-- a gate after a read that answered so: running out of memory leaves all, and a fault takes its turn and notes its mark
abbrev pub after_read : Result ℕ IoRefusal → MemExchange → MemExchange
after_read (Ok count) x = record x {
  taken = x.taken + count;
  marks = marks_after_read x;
  turns = drop 1 x.turns;
}
after_read (Err Failed) x = record x {
  marks = marks_after_read x;
  turns = drop 1 x.turns;
  read_faults = one_more x.read_faults;
}
after_read (Err NoMemory) x = x

-- all that is seen of such a gate, which holds nothing back
abbrev pub mem_stream : MemExchange → Stream
mem_stream x = record {
  told = Some (record { input = x.input; taken = x.taken; given = x.output.given; marks = x.marks });
  read_faults = x.read_faults;
  write_faults = x.output.write_faults;
  held = 0;
  late_reads = 0;
}

-- all that is seen of an output alone
abbrev pub mem_output : MemOutput → Stream
mem_output x = record {
  told = Some (record { input = []; taken = 0; given = x.given; marks = [] });
  read_faults = 0;
  write_faults = x.write_faults;
  held = 0;
  late_reads = 0;
}

-- the files by name, the numbers of the calls that fail, the calls so far, and the counts, each for all names
pub record MemContents : Type 0 where
  pub files : List (List ℕ × List ℕ)
  pub failing : List ℕ
  pub calls : ℕ
  pub read_faults : ℕ
  pub write_faults : ℕ

-- the next call is to fail
abbrev pub is_failing : MemContents → Bool
is_failing x = list_any (λ number. number == x.calls) x.failing

-- what a read of up to so many bytes under a name gives; none: it fails
abbrev pub mem_file_front : MemContents → List ℕ → ℕ → Option (List ℕ)
mem_file_front x name most = if is_failing x then None else front_of most (contents_in x.files name)

-- all that is seen of such files
abbrev pub mem_files : MemContents → FileView
mem_files x = record {
  contents = Some (contents_in x.files);
  is_calm = false;
  read_faults = λ _. x.read_faults;
  write_faults = λ _. x.write_faults;
}
