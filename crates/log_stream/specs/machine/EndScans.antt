-- How far a scan for a record's end has come.
use Rattle.std.specs.Option.{option_map}
use Rattle.std.specs.Prelude.{ℕ, List, [], ◌∷◌, ◌≡◌, ◌+◌, ◌<◌, ◌≤◌, length, drop, None}
use Rattle.std.specs.Prelude.{Some, false, take, slice_index, ◌-◌, Ok, Option}
use Rattle.enf_value.specs.meaning.Tokens.{is_blank}
use Rattle.signature.specs.declared.entries.NameEntry.{NameEntry}
use Rattle.log_stream.specs.declared.fronts.Front.{Front}
use Rattle.log_stream.specs.declared.items.LogItem.{LogItem}
use Rattle.log_stream.specs.declared.items.LogMode.{LogMode}
use Rattle.log_stream.specs.declared.items.LogRefusal.{LogRefusal}
use Rattle.log_stream.specs.declared.items.LogRefusal.TheVariants.{NoMemory}
use Rattle.log_stream.specs.declared.limits.TheConstants.{MOST_RECORD_BYTES}
use Rattle.log_stream.specs.declared.scanning.Move.{Move}
use Rattle.log_stream.specs.declared.scanning.Scan.{Scan}
use Rattle.log_stream.specs.declared.scanning.Scan.TheVariants.{Outside}
use Rattle.log_stream.specs.declared.scanning.Scanned.{Scanned}
use Rattle.log_stream.specs.declared.scanning.Scanned.TheVariants.{Ends, Open}
use Rattle.log_stream.specs.meaning.LogGrammar.{scan_behind, length_to_end, behind_blanks, HasRecord, IsPending}
use Rattle.log_stream.specs.meaning.LogGrammar.{record_length, IsRecordAnswer}
use Rattle.log_stream.specs.declared.scanning.Move.TheVariants as moves
use Rattle.log_stream.specs.declared.fronts.Front.TheVariants as fronts

-- the scan after some bytes
abbrev pub scan_after : Scan → List ℕ → Scan
scan_after scan [] = scan
scan_after scan (byte ∷ bytes) = scan_after (scan_behind scan byte) bytes

-- the rest of the bytes decides, from another place of the scan
pub record ScanGoesOn (scan : Scan) (bytes : List ℕ) (after : Scan) (passed : ℕ) : Type 0 where
  pub some : 0 < passed
  pub within : passed ≤ length bytes
  pub end : length_to_end scan bytes ≡ option_map (λ n. n + passed) (length_to_end after (drop passed bytes))
  pub scan_is : scan_after scan bytes ≡ scan_after after (drop passed bytes)

-- where a scan goes first
abbrev pub ScanMoves : Scan → List ℕ → Move → Type 0
ScanMoves scan bytes (moves.Ends passed) =
    (0 < passed) × (passed ≤ length bytes) × (length_to_end scan bytes ≡ Some passed)
ScanMoves scan bytes (moves.To after passed) = ScanGoesOn scan bytes after passed
ScanMoves scan bytes moves.Stays = (length_to_end scan bytes ≡ None) × (scan_after scan bytes ≡ scan)

-- what a scan of some bytes finds, from a place on that counts the end
abbrev pub Scans : Scan → List ℕ → (from : ℕ) → Scanned → Type 0
Scans scan bytes from (Ends end) = (n : ℕ) × (length_to_end scan bytes ≡ Some n) × (end ≡ from + n)
Scans scan bytes from (Open after) = (length_to_end scan bytes ≡ None) × (after ≡ scan_after scan bytes)

-- so many bytes of the rest were scanned, and no end is among them; if there are any, the rest begins with no blank
pub record IsScanned (rest : List ℕ) (scanned : ℕ) (scan : Scan) : Type 0 where
  pub within : scanned ≤ length rest
  pub short : scanned < MOST_RECORD_BYTES
  pub endless : length_to_end Outside (take scanned rest) ≡ None
  pub scan_is : scan ≡ scan_after Outside (take scanned rest)
  pub begun : 0 < scanned → is_blank (slice_index rest 0) ≡ false

-- after the blanks at a place
pub record BeginsAt (bytes : List ℕ) (from begin : ℕ) : Type 0 where
  pub within : begin ≤ length bytes
  pub rest_is : drop begin bytes ≡ behind_blanks (drop from bytes)

-- a whole record stands there
pub record IsWholeAt (bytes : List ℕ) (from begin end : ℕ) : Type 0 where
  pub n : ℕ
  pub whole : HasRecord (drop from bytes) n
  pub begins : BeginsAt bytes from begin
  pub ends : end ≡ begin + n
  pub within : end ≤ length bytes
  pub short : n ≤ MOST_RECORD_BYTES

-- a whole record stands there, and it is this item
pub record StandsWhole (entries : List NameEntry) (mode : LogMode) (bytes : List ℕ) (from : ℕ) (item : LogItem)
    (end : ℕ) : Type 0 where
  pub begin : ℕ
  pub whole : IsWholeAt bytes from begin end
  pub answer : IsRecordAnswer entries mode (take (end - begin) (drop begin bytes)) (Ok item)

-- what begins after the blanks at a place: a whole record, one that is too long, or one that is not whole, with the
-- place of the scan at the end
abbrev pub FindsFront : List ℕ → (from : ℕ) → Front → Type 0
FindsFront bytes from (fronts.Whole begin end) = IsWholeAt bytes from begin end
FindsFront bytes from fronts.TooLong =
    (record_length (behind_blanks (drop from bytes)) ≡ None)
    × (MOST_RECORD_BYTES ≤ length (behind_blanks (drop from bytes)))
FindsFront bytes from (fronts.Pending begin scan) =
    IsPending (drop from bytes) × BeginsAt bytes from begin
    × (scan ≡ scan_after Outside (behind_blanks (drop from bytes)))

-- a refusal that lasts: each but that by running out of memory
abbrev pub IsLasting : Option LogRefusal → Type 0
IsLasting None = Unit {0}
IsLasting (Some NoMemory) = ⊥
IsLasting (Some refusal) = Unit {0}

-- what lasts of an answer
abbrev pub lasting : LogRefusal → Option LogRefusal
lasting NoMemory = None
lasting refusal = Some refusal

-- what a reader keeps
pub record IsReader (bytes : List ℕ) (front scanned : ℕ) (scan : Scan) (refused : Option LogRefusal) : Type 0 where
  pub within : front ≤ length bytes
  pub scanned_is : IsScanned (drop front bytes) scanned scan
  pub lasting : IsLasting refused
