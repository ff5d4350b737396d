-- A reader of a log that comes in pieces, as its callers see it, and what its calls do.
use Rattle.std.specs.Prelude.{ℕ, List, ◌⊎◌, Option, ◌++◌, None, Some, ◌≡◌, Result, Ok, Err, []}
use Rattle.signature.specs.declared.entries.NameEntry.{NameEntry}
use Rattle.log_stream.specs.declared.items.Found.{Found}
use Rattle.log_stream.specs.declared.items.Found.TheVariants.{Item, Pending}
use Rattle.log_stream.specs.declared.items.LogItem.{LogItem}
use Rattle.log_stream.specs.declared.items.LogMode.{LogMode}
use Rattle.log_stream.specs.declared.items.LogRefusal.{LogRefusal}
use Rattle.log_stream.specs.declared.items.LogRefusal.TheVariants.{NoMemory, Truncated}
use Rattle.log_stream.specs.meaning.LogGrammar.{RefusesFront, IsPending, SpellsRecords, BeginsWithRecord, behind_blanks}
use Rattle.log_stream.specs.meaning.LogGrammar.{IsTruncated}

-- nothing more is whole at the front: it is pending, or refused
abbrev pub IsStuck : List NameEntry → LogMode → List ℕ → Type 0
IsStuck entries mode rest = IsPending rest ⊎ ((refusal : LogRefusal) × RefusesFront entries mode rest refusal)

-- the whole records of the bytes so far, before the first refused one
abbrev pub AreWholeRecords : List NameEntry → LogMode → List ℕ → List LogItem → Type 0
AreWholeRecords entries mode bytes items =
    (rest : List ℕ) × SpellsRecords entries mode bytes items rest × IsStuck entries mode rest

-- the signature and the mode, the bytes that were fed and not handed out, and the refusal that was answered
pub record Reader : Type 0 where
  pub entries : List NameEntry
  pub mode : LogMode
  pub rest : List ℕ
  pub refused : Option LogRefusal

-- a piece goes after the rest; after a refusal nothing is kept
abbrev pub fed_by : Option LogRefusal → Reader → List ℕ → Reader
fed_by None reader piece = record reader { rest = reader.rest ++ piece }
fed_by (Some refusal) reader piece = reader

abbrev pub fed : Reader → List ℕ → Reader
fed reader piece = fed_by reader.refused reader piece

-- the refusal that was answered is answered again, or this is the first one
abbrev pub RefusesOnce : Reader → LogRefusal → Type 0 → Reader → Type 0
RefusesOnce before refusal Cause after =
    ((before.refused ≡ Some refusal) × (after ≡ before)) ⊎ ((before.refused ≡ None) × Cause
    × (after ≡ record before { refused = Some refusal }))

-- the next record: it is taken from the front of the rest, or is pending, which lets blanks go, or is refused;
-- running out of memory changes nothing
abbrev pub ReadsNext : Reader → Result Found LogRefusal → Reader → Type 0
ReadsNext before (Ok (Item item)) after =
    (before.refused ≡ None) × BeginsWithRecord before.entries before.mode before.rest item after.rest
    × (after ≡ record before { rest = after.rest })
ReadsNext before (Ok Pending) after =
    (before.refused ≡ None) × IsPending before.rest × (after ≡ record before { rest = behind_blanks before.rest })
ReadsNext before (Err NoMemory) after = (before.refused ≡ None) × (after ≡ before)
ReadsNext before (Err refusal) after =
    RefusesOnce before refusal (RefusesFront before.entries before.mode before.rest refusal) after

-- the end: nothing is left, or a record was begun and not ended
abbrev pub EndsAt : Reader → Result Unit LogRefusal → Reader → Type 0
EndsAt before (Ok done) after = (before.refused ≡ None) × (behind_blanks before.rest ≡ []) × (after ≡ before)
EndsAt before (Err refusal) after =
    RefusesOnce before refusal ((refusal ≡ Truncated) × IsTruncated before.rest) after
