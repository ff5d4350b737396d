-- What a splitter takes of a log.
use Rattle.std.specs.Prelude.{ℕ, ◌<◌, ◌≡◌, ◌≤◌, ◌+◌, ◌++◌, List, [], ◌∷◌, Option, None, Some, length}
use Rattle.log_stream.specs.declared.items.LogItem.{LogItem}
use Rattle.log_stream.specs.declared.items.LogItem.TheVariants.{Step, Tick}
use Rattle.log_stream.specs.declared.items.LogMode.TheVariants.{Input}
use Rattle.log_stream.specs.meaning.LogGrammar.{BeginsWithRecord, IsPending, RefusesFront, SpellsRecords}
use Rattle.log_split.specs.declared.splitting.SplitRefusal.{SplitRefusal}
use Rattle.log_split.specs.declared.splitting.SplitRefusal.TheVariants.{Falling, Log}
use Rattle.log_split.specs.declared.splitting.Splitter.{Splitter}
use Rattle.log_split.specs.machine.Splitting.{split_plan}
use Rattle.log_split.specs.meaning.Streams.{split_text, tagged_lines}

abbrev pub item_time : LogItem → ℕ
item_time (Step kind time events) = time
item_time (Tick time) = time

-- the times of records never fall, from one clock to another
abbrev pub NeverFallTo : ℕ → List LogItem → ℕ → Type 0
NeverFallTo clock [] last = last ≡ clock
NeverFallTo clock (item ∷ items) last = (clock ≤ item_time item) × NeverFallTo (item_time item) items last

-- what is left of a log after its whole records, by the refusal: a record is not whole yet, or is refused
abbrev pub IsLeft : Splitter → List ℕ → Option SplitRefusal → Type 0
IsLeft s rest None = IsPending rest
IsLeft s rest (Some (Log why)) = RefusesFront s.reader.entries Input rest why
IsLeft s rest (Some (Falling given clock)) = (clock ≡ s.clock) × (given < clock)
    × (item : LogItem) × (behind : List ℕ) × BeginsWithRecord s.reader.entries Input rest item behind
    × (item_time item ≡ given)

-- a splitter that can go on: its reader has refused nothing, and reads the names by which it splits
pub record IsSplitting (s : Splitter) : Type 0 where
  pub names : s.reader.entries ≡ s.split.signature.now
  pub mode : s.reader.mode ≡ Input
  pub going : s.reader.refused ≡ None
  pub some : 0 < s.split.streams

-- how many records there can be, with those that were taken
abbrev pub most_records : Splitter → ℕ
most_records s = s.accepted + length s.reader.rest

-- the whole records were taken, and their lines written, up to what is left
pub record TakesWhole (s s' : Splitter) (out out' : List ℕ) (refused : Option SplitRefusal) : Type 0 where
  pub items : List LogItem
  pub rest : List ℕ
  pub spelled : SpellsRecords s.reader.entries Input s.reader.rest items rest
  pub rising : NeverFallTo s.clock items s'.clock
  pub count : s'.accepted ≡ s.accepted + length items
  pub lines : out' ≡ out ++ split_text (split_plan s.split) items
  pub left : IsLeft s' rest refused

-- a record was taken, and its lines written; or its time is below the clock
abbrev pub SplitsItem : LogItem → (s s' : Splitter) → (out out' : List ℕ) → Option SplitRefusal → Type 0
SplitsItem item s s' out out' None = (s.clock ≤ item_time item) × (s'.clock ≡ item_time item)
    × (s'.accepted ≡ s.accepted + 1) × (out' ≡ out ++ tagged_lines (split_plan s.split) item)
    × (s'.split ≡ s.split) × (s'.reader ≡ s.reader)
SplitsItem item s s' out out' (Some (Log why)) = ⊥
SplitsItem item s s' out out' (Some (Falling given clock)) = (given ≡ item_time item) × (clock ≡ s.clock)
    × (given < clock) × (s'.clock ≡ s.clock) × (out' ≡ out) × (s'.reader ≡ s.reader) × (s'.accepted ≡ s.accepted)
    × (s'.split ≡ s.split)
