-- How far a splitter has come within a call, record by record.
use Rattle.std.proofs.Common.{◌≡◌, ◌≢◌, ◌<◌, ◌≤◌, ◌+◌, ◌++◌, ℕ, List, [], ◌∷◌, None, Some, Ok, Err, length, refl, ap, sym, subst, ◌∙◌, arith, inl, inr, append_assoc}
use Rattle.std.proofs.lemmas.Grind.{flat_map-append}
use Rattle.std.proofs.lemmas.List.{append-nil, length_push}
use Rattle.signature.specs.declared.entries.NameEntry.{NameEntry}
use Rattle.log_stream.proofs.LogLaws.{BeginsWithRecord-shorter, IsPending-blanks, SpellsRecords-push, behind-shorter}
use Rattle.log_stream.specs.declared.items.Found.TheVariants.{Item, Pending}
use Rattle.log_stream.specs.declared.items.LogItem.{LogItem}
use Rattle.log_stream.specs.declared.items.LogMode.{LogMode}
use Rattle.log_stream.specs.declared.items.LogMode.TheVariants.{Input}
use Rattle.log_stream.specs.declared.items.LogRefusal.{LogRefusal}
use Rattle.log_stream.specs.declared.items.LogRefusal.TheVariants as log
use Rattle.log_stream.specs.machine.LogReaders.{Reader, ReadsNext, RefusesOnce}
use Rattle.log_stream.specs.meaning.LogGrammar.{BeginsWithRecord, IsPending, RefusesFront, SpellsRecords}
use Rattle.log_split.specs.declared.lines.Split.{Split}
use Rattle.log_split.specs.declared.splitting.SplitRefusal.{SplitRefusal}
use Rattle.log_split.specs.declared.splitting.SplitRefusal.TheVariants.{Falling, Log}
use Rattle.log_split.specs.declared.splitting.Splitter.{Splitter}
use Rattle.log_split.specs.machine.Splitting.{split_plan}
use Rattle.log_split.specs.machine.Taking.{IsSplitting, NeverFallTo, SplitsItem, TakesWhole, item_time, most_records}
use Rattle.log_split.specs.meaning.Streams.{SplitPlan, split_text, tagged_lines}

-- these records were taken since the call began
pub record HasTaken (s s' : Splitter) (out out' : List ℕ) : Type 0 where
  pub splitting : IsSplitting s'
  pub items : List LogItem
  pub spelled : SpellsRecords s.reader.entries Input s.reader.rest items s'.reader.rest
  pub rising : NeverFallTo s.clock items s'.clock
  pub count : s'.accepted ≡ s.accepted + length items
  pub lines : out' ≡ out ++ split_text (split_plan s.split) items
  pub entries : s'.reader.entries ≡ s.reader.entries
  pub split : s'.split ≡ s.split
  pub few : most_records s' ≤ most_records s

-- none yet
pub taken_none : (s : Splitter) (out : List ℕ) → IsSplitting s → HasTaken s s out out
taken_none s out splitting = record {
  splitting = splitting;
  items = [];
  spelled = refl;
  rising = refl;
  count = omega arith;
  lines = sym (append-nil out);
  entries = refl;
  split = refl;
  few = omega arith;
}

-- the time of one record more
rising_push : (clock : ℕ) (items : List LogItem) (between : ℕ) (item : LogItem) (last : ℕ) → NeverFallTo clock items between
    → between ≤ item_time item → last ≡ item_time item → NeverFallTo clock (items ++ item ∷ []) last
rising_push clock [] between item last same below is = (omega (arith, same, below), is)
rising_push clock (first ∷ items) between item last (at, rising) below is =
    (at, rising_push (item_time first) items between item last rising below is)

-- the lines of one record more
lines_push : (plan : SplitPlan) (items : List LogItem) (item : LogItem) (all before after : List ℕ)
    → before ≡ all ++ split_text plan items → after ≡ before ++ tagged_lines plan item
    → after ≡ all ++ split_text plan (items ++ item ∷ [])
lines_push plan items item all before after so_far end =
    end ∙ ap (λ out. out ++ tagged_lines plan item) so_far ∙ append_assoc all (split_text plan items) (tagged_lines plan item)
    ∙ ap (λ out. all ++ out) (ap (λ out. split_text plan items ++ out) (sym (append-nil (tagged_lines plan item)))
    ∙ sym (flat_map-append (tagged_lines plan) items (item ∷ [])))

-- a refusal that was not answered before has its cause
first_cause : (before after : Reader) (Cause : Type 0) (why : LogRefusal) → before.refused ≡ None
    → RefusesOnce before why Cause after → Cause × (after ≡ record before { refused = Some why })
first_cause before after Cause why going (inl again) = cc (sym again.0 ∙ going)
first_cause before after Cause why going (inr first) = (first.1, first.2)

refused_first : (before after : Reader) (why : LogRefusal) → why ≢ log.NoMemory → before.refused ≡ None
    → ReadsNext before (Err why) after → RefusesFront before.entries before.mode before.rest why
    × (after ≡ record before { refused = Some why })
refused_first before after (log.BadRecord place) some going h = first_cause before after _ (log.BadRecord place) going h
refused_first before after (log.UnknownName place) some going h = first_cause before after _ (log.UnknownName place) going h
refused_first before after (log.Arity place) some going h = first_cause before after _ (log.Arity place) going h
refused_first before after (log.SortClash place) some going h = first_cause before after _ (log.SortClash place) going h
refused_first before after log.TooLong some going h = first_cause before after _ log.TooLong going h
refused_first before after log.TimeTooLarge some going h = first_cause before after _ log.TimeTooLarge going h
refused_first before after log.Truncated some going h = first_cause before after _ log.Truncated going h
refused_first before after log.NoMemory some going h = absurd (some refl)

module _ (s a : Splitter) (out so_far : List ℕ) (h : HasTaken s a out so_far) (r : Reader) where
  -- the splitter behind the reader's call
  abbrev behind : Splitter
  behind = record a { reader = r }

  -- ---- No record is whole.

  pub pending_taken : ReadsNext a.reader (Ok Pending) r → TakesWhole s behind out so_far None
  pending_taken read = record {
    items = h.items;
    rest = a.reader.rest;
    spelled = h.spelled;
    rising = h.rising;
    count = h.count;
    lines = h.lines;
    left = read.1;
  }

  pub pending_still : ReadsNext a.reader (Ok Pending) r → IsSplitting behind
  pending_still read = record {
    names = ap (λ (x : Reader). x.entries) read.2 ∙ h.splitting.names;
    mode = ap (λ (x : Reader). x.mode) read.2 ∙ h.splitting.mode;
    going = ap (λ (x : Reader). x.refused) read.2 ∙ h.splitting.going;
    some = h.splitting.some;
  }

  pub pending_rest : ReadsNext a.reader (Ok Pending) r → IsPending behind.reader.rest
  pending_rest read = subst IsPending (sym (ap (λ (x : Reader). x.rest) read.2)) (IsPending-blanks a.reader.rest read.1)

  pub pending_few : ReadsNext a.reader (Ok Pending) r → most_records behind ≤ most_records s
  pending_few read = omega (arith, h.few, ap (λ (x : Reader). length x.rest) read.2, behind-shorter a.reader.rest)

  -- ---- A record is refused by the reader.

  refused_so : (why : LogRefusal) → why ≢ log.NoMemory → ReadsNext a.reader (Err why) r
      → TakesWhole s behind out so_far (Some (Log why))
  refused_so why some read =
      let first = refused_first a.reader r why some h.splitting.going read in
      record {
        items = h.items;
        rest = a.reader.rest;
        spelled = h.spelled;
        rising = h.rising;
        count = h.count;
        lines = h.lines;
        left = subst (λ (es : List NameEntry). RefusesFront es Input a.reader.rest why)
            (sym (ap (λ (x : Reader). x.entries) first.1))
            (subst (λ (m : LogMode). RefusesFront a.reader.entries m a.reader.rest why) h.splitting.mode first.0);
      }

  pub refused_taken : (why : LogRefusal) (refusal : SplitRefusal) → (refusal ≡ Log why) × (why ≢ log.NoMemory)
      → ReadsNext a.reader (Err why) r → TakesWhole s behind out so_far (Some refusal)
  refused_taken why refusal (is, some) read =
      subst (λ (x : SplitRefusal). TakesWhole s behind out so_far (Some x)) (sym is) (refused_so why some read)

  pub refused_few : (why : LogRefusal) (refusal : SplitRefusal) → (refusal ≡ Log why) × (why ≢ log.NoMemory)
      → ReadsNext a.reader (Err why) r → most_records behind ≤ most_records s
  refused_few why refusal (is, some) read =
      let first = refused_first a.reader r why some h.splitting.going read in
      omega (arith, h.few, ap (λ (x : Reader). length x.rest) first.1)

  -- ---- A record is whole.

  module _ (item : LogItem) (read : ReadsNext a.reader (Ok (Item item)) r) where
    shorter : length r.rest < length a.reader.rest
    shorter = BeginsWithRecord-shorter a.reader.entries a.reader.mode a.reader.rest item r.rest read.1

    begins : (entries : List NameEntry) → a.reader.entries ≡ entries → BeginsWithRecord entries Input a.reader.rest item r.rest
    begins entries same =
        subst (λ (es : List NameEntry). BeginsWithRecord es Input a.reader.rest item r.rest) same
        (subst (λ (m : LogMode). BeginsWithRecord a.reader.entries m a.reader.rest item r.rest) h.splitting.mode read.1)

    pub room : a.accepted + 1 ≤ most_records s
    room = omega (arith, h.few, shorter)

    module _ (b : Splitter) (after : List ℕ) where
      -- it is split
      pub split_taken : SplitsItem item behind b so_far after None → HasTaken s b out after
      split_taken (below, clock, accepted, lines, split, reader) =
          let entries : b.reader.entries ≡ a.reader.entries = ap (λ (x : Reader). x.entries) (reader ∙ read.2) in
          record {
            splitting = record {
              names = entries ∙ h.splitting.names ∙ sym (ap (λ (x : Split). x.signature.now) split);
              mode = ap (λ (x : Reader). x.mode) (reader ∙ read.2) ∙ h.splitting.mode;
              going = ap (λ (x : Reader). x.refused) (reader ∙ read.2) ∙ h.splitting.going;
              some = omega (arith, h.splitting.some, ap (λ (x : Split). x.streams) split);
            };
            items = h.items ++ item ∷ [];
            spelled = subst (λ (x : Reader). SpellsRecords s.reader.entries Input s.reader.rest (h.items ++ item ∷ []) x.rest)
                (sym reader) (SpellsRecords-push s.reader.entries Input s.reader.rest h.items a.reader.rest item r.rest
                h.spelled (begins s.reader.entries h.entries));
            rising = rising_push s.clock h.items a.clock item b.clock h.rising below clock;
            count = omega (arith, accepted, h.count, length_push h.items item);
            lines = lines_push (split_plan s.split) h.items item out so_far after h.lines
                (lines ∙ ap (λ (x : Split). so_far ++ tagged_lines (split_plan x) item) h.split);
            entries = entries ∙ h.entries;
            split = split ∙ h.split;
            few = omega (arith, accepted, h.few, shorter, ap (λ (x : Reader). length x.rest) reader);
          }

      pub split_smaller : SplitsItem item behind b so_far after None → length b.reader.rest < length a.reader.rest
      split_smaller (below, clock, accepted, lines, split, reader) = omega (arith, shorter, ap (λ (x : Reader). length x.rest) reader)

      -- its time is below the clock
      pub falling_taken : (why : SplitRefusal) → SplitsItem item behind b so_far after (Some why)
          → TakesWhole s b out after (Some why)
      falling_taken (Log why) answer = absurd answer
      falling_taken (Falling given clock) (given_is, clock_is, below, same, lines, reader, accepted, split) = record {
        items = h.items;
        rest = a.reader.rest;
        spelled = h.spelled;
        rising = subst (λ (last : ℕ). NeverFallTo s.clock h.items last) (sym same) h.rising;
        count = accepted ∙ h.count;
        lines = lines ∙ h.lines;
        left = (
          clock_is ∙ sym same,
          below,
          item,
          r.rest,
          begins b.reader.entries (sym (ap (λ (x : Reader). x.entries) (reader ∙ read.2))),
          sym given_is,
        );
      }

      pub falling_few : (why : SplitRefusal) → SplitsItem item behind b so_far after (Some why)
          → most_records b ≤ most_records s
      falling_few (Log why) answer = absurd answer
      falling_few (Falling given clock) (given_is, clock_is, below, same, lines, reader, accepted, split) =
          omega (arith, accepted, h.few, shorter, ap (λ (x : Reader). length x.rest) reader)
