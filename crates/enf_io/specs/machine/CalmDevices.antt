-- What the devices over memory that have no faults tell of themselves.
use Rattle.std.specs.Cmp.Lexicographic.{pointwise}
use Rattle.std.specs.Prelude.{ℕ, List, Some, [], ◌∷◌, min, max, ◌==◌, ◌-◌, ◌^◌, count_by, true}
use Rattle.enf_io.specs.machine.KeptFiles.{contents_in}
use Rattle.enf_io.specs.meaning.Exchange.{Exchange, Stream}
use Rattle.enf_io.specs.meaning.Files.{Contents, FileView}

-- an exchange, and the sizes that limit the reads to come
pub record CalmExchange : Type 0 where
  pub exchange : Exchange
  pub pieces : List ℕ

-- a device that tells this exchange, has no faults and holds nothing back
abbrev pub calm_stream : Exchange → Stream
calm_stream x = record { told = Some x; read_faults = 0; write_faults = 0; held = 0; late_reads = 0 }

-- an exchange of a device without an input that was given these bytes
abbrev pub given_alone : List ℕ → Exchange
given_alone bytes = record { input = []; taken = 0; given = bytes; marks = [] }

-- so many bytes or the next piece's size, if that is less: a size of 0 counts as 1, and past the sizes all fits
abbrev pub within_piece : List ℕ → ℕ → ℕ
within_piece [] count = count
within_piece (size ∷ sizes) count = min (max 1 size) count

-- the files by name, and the names of those that a read missed
pub record CalmContents : Type 0 where
  pub files : List (List ℕ × List ℕ)
  pub missed : List (List ℕ)

-- the contents under a name
abbrev pub contents_under : CalmContents → List ℕ → Contents
contents_under x name = contents_in x.files name

-- how often a read missed this name, up to the last value of a count
abbrev pub times_missed : CalmContents → List ℕ → ℕ
times_missed x name = min (count_by (pointwise ◌==◌ name) x.missed) (2 ^ 64 - 1)

-- all that is seen of such files
abbrev pub calm_files : CalmContents → FileView
calm_files x = record {
  contents = Some (contents_under x);
  is_calm = true;
  read_faults = times_missed x;
  write_faults = λ _. 0;
}
