-- The grammar of a log of several streams: in front of each record, or of the word that ends a stream, stands the
-- number of the stream. The rest is the grammar of a log.
use Rattle.log_stream.specs.declared.items.LogItem.{LogItem}
use Rattle.log_stream.specs.declared.items.LogMode.TheVariants.{Input}
use Rattle.log_stream.specs.declared.items.LogRefusal.{LogRefusal}
use Rattle.log_stream.specs.declared.items.LogRefusal.TheVariants.{BadRecord, TooLong, Truncated, NoMemory}
use Rattle.log_stream.specs.declared.limits.TheConstants.{MOST_RECORD_BYTES}
use Rattle.log_stream.specs.meaning.LogGrammar.{HasRecord, IsLogTokenAt, IsRecordForm, IsTruncated, LogMark, LogName}
use Rattle.log_stream.specs.meaning.LogGrammar.{LogTime, LogToken}
use Rattle.log_stream.specs.meaning.LogGrammar.{LogTokensLead, WrittenRecord, behind_blanks, behind_record}
use Rattle.log_stream.specs.meaning.LogGrammar.{judged_record}
use Rattle.log_stream.specs.meaning.LogGrammar.{record_bytes, record_length, record_tokens}
use Rattle.signature.specs.declared.entries.NameEntry.{NameEntry}
use Rattle.std.specs.Prelude.{ℕ, List, [], ◌∷◌, ◌++◌, ◌≡◌, ◌≤◌, ◌<◌, ◌^◌, Option, None, Some, Result, Ok, Err, codes}
use Rattle.std.specs.Prelude.{length}
use Rattle.stream_mux.specs.declared.records.Offer.TheVariants.{Item, End}
use Rattle.stream_mux.specs.declared.records.Tagged.{Tagged}

-- what is written: a record of a stream, or the end of a stream, with the place where its word begins
pub data WrittenTagged : Type 0 where
  RecordOf : (stream : ℕ) → (written : WrittenRecord) → WrittenTagged
  EndOf : (stream : ℕ) → (place : ℕ) → WrittenTagged

-- STREAM ":" and what follows
abbrev pub behind_tag_tokens : (stream : ℕ) → List LogToken → List LogToken
behind_tag_tokens stream tokens = LogTime stream ∷ LogMark 58 ∷ tokens

-- a record, or "end" ";"
abbrev pub tagged_tokens : WrittenTagged → List LogToken
tagged_tokens (RecordOf stream written) = behind_tag_tokens stream (record_tokens written)
tagged_tokens (EndOf stream place) = behind_tag_tokens stream (LogName place (codes "end") ∷ LogMark 59 ∷ [])

-- the number of a stream is below 2^32, and a record is one that an input has
abbrev pub IsTaggedForm : WrittenTagged → Type 0
IsTaggedForm (RecordOf stream written) = (stream < 2 ^ 32) × IsRecordForm Input written
IsTaggedForm (EndOf stream place) = stream < 2 ^ 32

-- the tokens are those of a record with its tag
abbrev pub IsTaggedSentence : List LogToken → Type 0
IsTaggedSentence tokens = (written : WrittenTagged) × IsTaggedForm written × (tagged_tokens written ≡ tokens)

-- some record with its tag begins with the tokens
abbrev pub CanBeginTagged : List LogToken → Type 0
CanBeginTagged front = (written : WrittenTagged) × (rest : List LogToken) × IsTaggedForm written
    × (tagged_tokens written ≡ front ++ rest)

-- the bytes are those tokens and blanks between them
abbrev pub IsTaggedSpelled : List ℕ → WrittenTagged → Type 0
IsTaggedSpelled bytes written = IsTaggedForm written × LogTokensLead bytes 0 (tagged_tokens written) (length bytes)

-- the first place, or the end, at which the bytes cannot be those of a record with its tag; so the number of a stream
-- that is too great is bad where it begins
pub record IsBadTagged (bytes : List ℕ) (place : ℕ) : Type 0 where
  pub front : List LogToken
  pub leads : LogTokensLead bytes 0 front place
  pub begins : CanBeginTagged front
  pub unfinished : place ≡ length bytes → IsTaggedSentence front → ⊥
  pub stuck : (token : LogToken) (end : ℕ) → IsLogTokenAt bytes place end token
      → CanBeginTagged (front ++ token ∷ []) → ⊥

-- what a record says under a signature, given with its stream
abbrev pub of_stream : (stream : ℕ) → Result LogItem LogRefusal → Result Tagged LogRefusal
of_stream stream (Ok item) = Ok (record { stream = stream; offer = Item item })
of_stream stream (Err refusal) = Err refusal

abbrev pub judged_tagged : List NameEntry → WrittenTagged → Result Tagged LogRefusal
judged_tagged entries (RecordOf stream written) = of_stream stream (judged_record entries written)
judged_tagged entries (EndOf stream place) = Ok (record { stream = stream; offer = End })

-- the answer to the bytes of one record with its tag
abbrev pub IsTaggedAnswer : List NameEntry → List ℕ → Result Tagged LogRefusal → Type 0
IsTaggedAnswer entries bytes (Err (BadRecord place)) = IsBadTagged bytes place
IsTaggedAnswer entries bytes answer =
    (written : WrittenTagged) × IsTaggedSpelled bytes written × (judged_tagged entries written ≡ answer)

-- ---- A log: its whole records, the rest, and its first refusal. A record ends and is pending, too long or cut short as
-- in any log, its tag counted with it.

abbrev pub BeginsWithTagged : List NameEntry → List ℕ → Tagged → List ℕ → Type 0
BeginsWithTagged entries text found rest =
    (n : ℕ) × HasRecord text n × IsTaggedAnswer entries (record_bytes text n) (Ok found) × (rest ≡ behind_record text n)

abbrev pub RefusesTagged : List NameEntry → List ℕ → LogRefusal → Type 0
RefusesTagged entries text TooLong =
    (record_length (behind_blanks text) ≡ None) × (MOST_RECORD_BYTES ≤ length (behind_blanks text))
RefusesTagged entries text Truncated = ⊥
RefusesTagged entries text NoMemory = ⊥
RefusesTagged entries text refusal =
    (n : ℕ) × HasRecord text n × IsTaggedAnswer entries (record_bytes text n) (Err refusal)

abbrev pub SpellsTagged : List NameEntry → List ℕ → List Tagged → List ℕ → Type 0
SpellsTagged entries text [] rest = behind_blanks rest ≡ behind_blanks text
SpellsTagged entries text (found ∷ more) rest =
    (between : List ℕ) × BeginsWithTagged entries text found between × SpellsTagged entries between more rest

abbrev pub EndsTaggedBy : List NameEntry → List ℕ → Option LogRefusal → Type 0
EndsTaggedBy entries rest None = behind_blanks rest ≡ []
EndsTaggedBy entries rest (Some Truncated) = IsTruncated rest
EndsTaggedBy entries rest (Some refusal) = RefusesTagged entries rest refusal

-- a text is a whole log of several streams: these are its records up to the first refusal, where there is one
abbrev pub IsTaggedLog : List NameEntry → List ℕ → List Tagged → Option LogRefusal → Type 0
IsTaggedLog entries text found refusal =
    (rest : List ℕ) × SpellsTagged entries text found rest × EndsTaggedBy entries rest refusal
