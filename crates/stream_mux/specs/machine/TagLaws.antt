-- The statements of the laws of records behind their tags.
use Rattle.log_stream.specs.declared.items.LogItem.{LogItem}
use Rattle.log_stream.specs.declared.items.LogMode.TheVariants.{Input}
use Rattle.log_stream.specs.declared.items.LogRefusal.{LogRefusal}
use Rattle.log_stream.specs.declared.items.LogRefusal.TheVariants.{Arity, BadRecord, NoMemory, SortClash}
use Rattle.log_stream.specs.declared.items.LogRefusal.TheVariants.{TimeTooLarge, TooLong, Truncated, UnknownName}
use Rattle.log_stream.specs.meaning.LogGrammar.{IsLogTokenAt, IsRecordAnswer, LogMark, LogName, LogTime, LogTokensLead}
use Rattle.signature.specs.declared.entries.NameEntry.{NameEntry}
use Rattle.std.specs.Prelude.{ℕ, List, [], ◌∷◌, ◌≤◌, ◌<◌, ◌+◌, ◌^◌, Result, Ok, Err, codes, drop, length}
use Rattle.stream_mux.specs.declared.records.Offer.TheVariants.{End}
use Rattle.stream_mux.specs.meaning.TaggedGrammar.{IsBadTagged, IsTaggedAnswer, behind_tag_tokens, of_stream}

-- a tag stands in front, and what follows it begins at a place
pub record IsTagOf (bytes : List ℕ) (stream at : ℕ) : Type 0 where
  pub fits : stream < 2 ^ 32
  pub within : at ≤ length bytes
  pub leads : LogTokensLead bytes 0 (behind_tag_tokens stream []) at

-- the word that ends a stream stands at a place
abbrev pub HasEndAt : List ℕ → (at : ℕ) → Type 0
HasEndAt bytes at = (end : ℕ) × IsLogTokenAt bytes at end (LogName at (codes "end"))

-- a refusal by a function of its place
abbrev pub refusal_at : (ℕ → ℕ) → LogRefusal → LogRefusal
refusal_at f (BadRecord place) = BadRecord (f place)
refusal_at f (UnknownName place) = UnknownName (f place)
refusal_at f (Arity place) = Arity (f place)
refusal_at f (SortClash place) = SortClash (f place)
refusal_at f TooLong = TooLong
refusal_at f TimeTooLarge = TimeTooLarge
refusal_at f Truncated = Truncated
refusal_at f NoMemory = NoMemory

-- an answer to what stands behind a tag, its place counted from there
abbrev pub answer_at : (ℕ → ℕ) → Result LogItem LogRefusal → Result LogItem LogRefusal
answer_at f (Ok item) = Ok item
answer_at f (Err refusal) = Err (refusal_at f refusal)

-- behind a tag stands what the grammar of a log has there, unless it is an end, with its places counted from the tag on
abbrev pub RecordsStandBehindTags : Type 0
RecordsStandBehindTags = (entries : List NameEntry) (bytes : List ℕ) (stream at : ℕ)
    (answer : Result LogItem LogRefusal)
    → IsTagOf bytes stream at → (HasEndAt bytes at → ⊥) → IsRecordAnswer entries Input (drop at bytes) answer
    → IsTaggedAnswer entries bytes (of_stream stream (answer_at (λ place. at + place) answer))

-- or an end
abbrev pub EndsStandBehindTags : Type 0
EndsStandBehindTags = (entries : List NameEntry) (bytes : List ℕ) (stream at : ℕ) → IsTagOf bytes stream at
    → LogTokensLead bytes at (LogName at (codes "end") ∷ LogMark 59 ∷ []) (length bytes)
    → IsTaggedAnswer entries bytes (Ok (record { stream = stream; offer = End }))

-- ---- Where a tag, or the end of a stream, is bad.

-- at its first byte, where no number below 2^32 stands there
abbrev pub NoNumberIsBad : Type 0
NoNumberIsBad = (bytes : List ℕ)
    → ((stream end : ℕ) → stream < 2 ^ 32 → IsLogTokenAt bytes 0 end (LogTime stream) → ⊥) → IsBadTagged bytes 0

-- behind the number, where no colon stands there
abbrev pub NoColonIsBad : Type 0
NoColonIsBad = (bytes : List ℕ) (stream at : ℕ) → stream < 2 ^ 32 → LogTokensLead bytes 0 (LogTime stream ∷ []) at
    → ((end : ℕ) → IsLogTokenAt bytes at end (LogMark 58) → ⊥) → IsBadTagged bytes at

-- behind the word, where no semicolon stands there
abbrev pub NoSemicolonIsBad : Type 0
NoSemicolonIsBad = (bytes : List ℕ) (stream place at : ℕ) → stream < 2 ^ 32
    → LogTokensLead bytes 0 (behind_tag_tokens stream (LogName place (codes "end") ∷ [])) at
    → ((end : ℕ) → IsLogTokenAt bytes at end (LogMark 59) → ⊥) → IsBadTagged bytes at
