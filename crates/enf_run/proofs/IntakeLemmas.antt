-- The intake of a log: what its reader makes of the rest, turns in which no record is taken, and how far it has come.
use Rattle.enf_run.proofs.Vocabulary.{◌≡◌, ◌≢◌, ℕ, ◌+◌, ◌-◌, ◌<◌, ◌≤◌, List, [], ◌++◌, length, length-append, refl, sym, ap, subst, ◌∙◌, inl, inr, Option, None, Some, Ok, Err, arith, option_map}
use Rattle.enf_run.proofs.Vocabulary.{one_more, Exchange, IsAtEnd, Stream, Gave, with_given, IsPending-blanks, SpellsRecords-blanks, end_stays, behind-shorter, BeginsWithRecord, HasRecord, IsPending}
use Rattle.enf_run.proofs.Vocabulary.{IsTruncated, RefusesFront, behind_blanks, Reader, ReadsNext, RefusesOnce, fed, Item, LogItem, LogMode, LogRefusal, Outside, NameEntry, clock_after, Exchanged}
use Rattle.enf_run.proofs.Vocabulary.{IsReadBegun, EndsIntake, EndsTurn, GetsPiece, IsStreamUntouched, ReadMeetsEnd, RefusesNext, TakesBytes, TurnTakesPiece, reads_in, most_log_bytes, IsTakenToEnd}
use Rattle.enf_run.proofs.Vocabulary.{records_of, LogEndsAs, IsRestRefusedAs, LogReading, TakenLog, taken_log, Intake, Verdict, RecordRefusal}
use Rattle.enf_run.proofs.ExchangeLemmas.{IsSteady, begun_gave, begun_marked, begun_took, exchanged_ended, exchanged_gave, exchanged_marked, exchanged_none, exchanged_took, steady_gave, steady_none}
use Rattle.enf_run.proofs.ExchangeLemmas.{steady_took}
use Rattle.log_stream.specs.declared.items.LogRefusal.TheVariants as log
use Rattle.enf_run.specs.declared.intake.Verdict.TheVariants as verdicts
use Rattle.enf_run.specs.declared.refusals.RecordRefusal.TheVariants as records

-- ---- the record at the front

module _ (entries : List NameEntry) (mode : LogMode) (before after : Reader) (going : before ≡ reads_in entries mode before.rest) where
  same_entries : before.entries ≡ entries
  same_entries = ap (λ (r : Reader). r.entries) going

  same_mode : before.mode ≡ mode
  same_mode = ap (λ (r : Reader). r.mode) going

  same_refused : before.refused ≡ None
  same_refused = ap (λ (r : Reader). r.refused) going

  -- the record that was read
  pub reads_item : (item : LogItem) → ReadsNext before (Ok (Item item)) after → BeginsWithRecord entries mode before.rest item after.rest × (after ≡ reads_in entries mode after.rest)
  reads_item item (none, begins, is) = (
    subst (λ (es : List NameEntry). BeginsWithRecord es mode before.rest item after.rest) same_entries
        (subst (λ (m : LogMode). BeginsWithRecord before.entries m before.rest item after.rest) same_mode begins),
    is ∙ (λ i. record { entries = same_entries i; mode = same_mode i; rest = after.rest; refused = same_refused i }),
  )

  -- a refusal that was not answered before has its cause
  first_cause : (refusal : LogRefusal) → RefusesOnce before refusal (RefusesFront before.entries before.mode before.rest refusal) after → RefusesFront entries mode before.rest refusal
  first_cause refusal (inl again) = cc (sym again.0 ∙ same_refused)
  first_cause refusal (inr first) =
      subst (λ (es : List NameEntry). RefusesFront es mode before.rest refusal) same_entries (subst (λ (m : LogMode). RefusesFront before.entries m before.rest refusal) same_mode first.1)

  pub reads_refused : (refusal : LogRefusal) → refusal ≢ log.NoMemory → ReadsNext before (Err refusal) after → RefusesFront entries mode before.rest refusal
  reads_refused (log.BadRecord place) some h = first_cause (log.BadRecord place) h
  reads_refused (log.UnknownName place) some h = first_cause (log.UnknownName place) h
  reads_refused (log.Arity place) some h = first_cause (log.Arity place) h
  reads_refused (log.SortClash place) some h = first_cause (log.SortClash place) h
  reads_refused log.TooLong some h = first_cause log.TooLong h
  reads_refused log.TimeTooLarge some h = first_cause log.TimeTooLarge h
  reads_refused log.Truncated some h = first_cause log.Truncated h
  reads_refused log.NoMemory some h = absurd (some refl)

-- where a record is whole there is something
record_some : (rest : List ℕ) (n : ℕ) → HasRecord rest n → 0 < length rest
record_some rest n whole =
    let end = end_stays Outside 65536 (behind_blanks rest) [] n whole in
    omega (arith, end.1, end.2, behind-shorter rest)

-- and where one is refused
read_some : (entries : List NameEntry) (mode : LogMode) (rest : List ℕ) (why : LogRefusal) → RefusesFront entries mode rest why → 0 < length rest
read_some entries mode rest (log.BadRecord place) r = record_some rest r.0 r.1
read_some entries mode rest (log.UnknownName place) r = record_some rest r.0 r.1
read_some entries mode rest (log.Arity place) r = record_some rest r.0 r.1
read_some entries mode rest (log.SortClash place) r = record_some rest r.0 r.1
read_some entries mode rest log.TooLong r = omega (arith, r.1, behind-shorter rest)
read_some entries mode rest log.TimeTooLarge r = record_some rest r.0 r.1
read_some entries mode rest log.Truncated r = absurd r
read_some entries mode rest log.NoMemory r = absurd r

refused_some : (entries : List NameEntry) (mode : LogMode) (rest : List ℕ) (clock : ℕ) (why : RecordRefusal) → RefusesNext entries mode rest clock why → 0 < length rest
refused_some entries mode rest clock (records.Log why) r = read_some entries mode rest why r
refused_some entries mode rest clock (records.Falling given at) r = record_some rest r.1.begins.0 r.1.begins.1
refused_some entries mode rest clock records.InputLimit r = absurd r

-- ---- turns in which no record is taken

-- blanks were let go, where no record is whole, and else the intake is as it was
pub record IsBehindBlanks (entries : List NameEntry) (mode : LogMode) (old new : Intake) : Type 0 where
  pub pending : IsPending old.reader.rest
  pub reader_is : new.reader ≡ reads_in entries mode (behind_blanks old.reader.rest)
  pub accepted : new.accepted ≡ old.accepted
  pub taken : new.taken ≡ old.taken

module _ (entries : List NameEntry) (mode : LogMode) (old middle : Intake) (h : IsBehindBlanks entries mode old middle) where
  rest_is : middle.reader.rest ≡ behind_blanks old.reader.rest
  rest_is = ap (λ (r : Reader). r.rest) h.reader_is

  again : behind_blanks middle.reader.rest ≡ behind_blanks old.reader.rest
  again = ap behind_blanks rest_is ∙ SpellsRecords-blanks entries mode old.reader.rest [] old.reader.rest refl

  -- the rest is still pending, and nothing was refused
  pub still_pending : IsPending middle.reader.rest
  still_pending = subst IsPending (sym rest_is) (IsPending-blanks old.reader.rest h.pending)

  pub still_going : middle.reader.refused ≡ None
  still_going = ap (λ (r : Reader). r.refused) h.reader_is

  pub takes_more : (new : Intake) (a c : Stream) → GetsPiece middle new a c → TurnTakesPiece entries mode old new a c
  takes_more new a c g =
      record {
        pending = h.pending;
        bytes = g.bytes;
        takes = subst (λ (n : ℕ). TakesBytes (most_log_bytes - n) g.bytes a.told c.told) h.taken g.takes;
        some = g.some;
        reader = g.reader ∙ ap (λ (r : Reader). fed r g.bytes) h.reader_is;
        accepted = g.accepted ∙ h.accepted;
        taken = g.taken ∙ ap (λ (n : ℕ). n + length g.bytes) h.taken;
        reads = g.reads;
      }

  met : (a c : Stream) → ReadMeetsEnd middle.taken a c → ReadMeetsEnd old.taken a c
  met a c m = subst (λ (n : ℕ). ReadMeetsEnd n a c) h.taken m

  truncated : IsTruncated middle.reader.rest → IsTruncated old.reader.rest
  truncated t = (h.pending, subst (λ (l : List ℕ). 0 < length l) again t.1)

  pub ends_intake : (a c : Stream) (verdict : Verdict) → EndsIntake middle.reader.rest middle.taken a c verdict → EndsIntake old.reader.rest old.taken a c verdict
  ends_intake a c verdicts.Accepted e = (sym again ∙ e.0, met a c e.1)
  ends_intake a c verdicts.Fault e = e
  ends_intake a c (verdicts.Refused why) (inl (is, t, m)) = inl (is, truncated t, met a c m)
  ends_intake a c (verdicts.Refused why) (inr (is, all, left)) = inr (is, sym h.taken ∙ all, left)

-- ---- how far the intake of a log has come

-- so much was taken and given, at each read P held, each read but a last one took something, and none failed
pub record IsFar (P : List ℕ → List ℕ → Type 0) (before : Stream) (taken given : List ℕ) (after : Stream) : Type 0 where
  pub exchanged : Exchanged P taken given before.told after.told
  pub steady : IsSteady before.told after.told
  pub begun : 0 < length taken → IsReadBegun before.told after.told
  pub reads : after.read_faults ≡ before.read_faults

-- the log ended
pub record IsEnded (P : List ℕ → List ℕ → Type 0) (t : TakenLog) (verdict : Verdict) (before : Stream) (taken given : List ℕ) (after : Stream) : Type 0 where
  pub exchanged : Exchanged P taken given before.told after.told
  pub ends : LogEndsAs t before after verdict
  pub begun : IsReadBegun before.told after.told

module _ (P : List ℕ → List ℕ → Type 0) (before : Stream) where
  -- before any call
  pub far_none : IsFar P before [] [] before
  far_none = record { exchanged = exchanged_none P before.told; steady = steady_none before.told; begun = λ some. absurd (omega (arith, some)); reads = refl }

  module _ (taken given : List ℕ) (b c : Stream) (h : IsFar P before taken given b) where
    -- a read
    pub exchanged_more : P taken given → (bytes : List ℕ) → TakesBytes (most_log_bytes - length taken) bytes b.told c.told → Exchanged P (taken ++ bytes) given before.told c.told
    exchanged_more now bytes takes =
        exchanged_took P taken given before.told b.told c.told h.exchanged now h.steady bytes takes.took takes.piece (omega (arith, takes.within, h.exchanged.limit, length-append taken bytes))

    pub far_took : P taken given → (bytes : List ℕ) → TakesBytes (most_log_bytes - length taken) bytes b.told
        c.told → 0 < length bytes → c.read_faults ≡ b.read_faults → IsFar P before (taken ++ bytes) given c
    far_took now bytes takes some reads =
        record {
          exchanged = exchanged_more now bytes takes;
          steady = steady_took bytes before.told b.told c.told h.exchanged.grew takes.took some h.steady;
          begun = λ more. begun_took P taken given before.told b.told c.told h.exchanged bytes takes.took;
          reads = reads ∙ h.reads;
        }

    -- a write
    pub far_gave : (bytes : List ℕ) → Gave bytes b.told c.told → c.read_faults ≡ b.read_faults → IsFar P before taken (given ++ bytes) c
    far_gave bytes gave reads =
        record {
          exchanged = exchanged_gave P taken given before.told b.told c.told h.exchanged bytes gave;
          steady = steady_gave bytes before.told b.told c.told h.exchanged.grew gave h.steady;
          begun = λ some. begun_gave P taken given before.told b.told c.told h.exchanged bytes gave (h.begun some);
          reads = reads ∙ h.reads;
        }

    -- a turn that ends the log
    module _ (r : LogReading) (read : List LogItem) (clock : ℕ)
        (clock_is : clock ≡ clock_after r.clock (records_of read)) (intake : Intake)
        (count : intake.taken ≡ length taken) (room : intake.accepted + length intake.reader.rest ≤ intake.taken)
        (now : IsPending intake.reader.rest → P taken given) where
      abbrev so_taken : TakenLog
      so_taken = taken_log r read taken intake.reader.rest

      abbrev EndsSo : Verdict → Type 0
      EndsSo verdict = IsEnded P so_taken verdict before taken given c

      -- the gate was left
      left_so : IsStreamUntouched b c → 0 < length taken → (why : RecordRefusal) → IsRestRefusedAs so_taken c why → EndsSo (verdicts.Refused why)
      left_so left some why is =
          record {
            exchanged = subst (λ (o : Option Exchange). Exchanged P taken given before.told o) (sym left.0) h.exchanged;
            ends = (is, left.1 ∙ h.reads);
            begun = subst (λ (o : Option Exchange). IsReadBegun before.told o) (sym left.0) (h.begun some);
          }

      -- the refusal of the record at the front is that of the rest
      as_refused : (why : RecordRefusal) → RefusesNext r.entries r.mode intake.reader.rest clock why → IsRestRefusedAs so_taken c why
      as_refused (records.Log why) x = inl x
      as_refused (records.Falling given' at) x =
          let f = x.1 in
          (x.0 ∙ clock_is, record { item = f.item; more = f.more; begins = f.begins; time = f.time; below = omega (arith, f.below, clock_is) })
      as_refused records.InputLimit x = absurd x

      met_end : ReadMeetsEnd intake.taken b c → IsTakenToEnd (length taken) c
      met_end m = (omega (arith, m.below, count), m.at_end)

      ended_so : IsPending intake.reader.rest → ReadMeetsEnd intake.taken b c → (verdict : Verdict) → LogEndsAs so_taken before c verdict → EndsSo verdict
      ended_so pending m verdict ends =
          record {
            exchanged = exchanged_ended P taken given before.told b.told c.told h.exchanged (now pending) h.steady m.took;
            ends = ends;
            begun = begun_took P taken given before.told b.told c.told h.exchanged [] m.took;
          }

      at_rest : IsPending intake.reader.rest → (verdict : Verdict) → EndsIntake intake.reader.rest intake.taken b c verdict → EndsSo verdict
      at_rest pending verdicts.Accepted e = ended_so pending e.1 verdicts.Accepted (e.0, met_end e.1, e.1.reads ∙ h.reads)
      at_rest pending verdicts.Fault e =
          record {
            exchanged = exchanged_marked P taken given before.told b.told c.told h.exchanged (now pending) h.steady e.0;
            ends = (pending, e.1 ∙ ap one_more h.reads);
            begun = begun_marked P taken given before.told b.told c.told h.exchanged e.0;
          }
      at_rest pending (verdicts.Refused why) (inl (is, t, m)) =
          subst (λ (w : RecordRefusal). EndsSo (verdicts.Refused w)) (sym is)
          (ended_so pending m (verdicts.Refused (records.Log log.Truncated)) (inr (refl, t, met_end m), m.reads ∙ h.reads))
      at_rest pending (verdicts.Refused why) (inr (is, all, left)) =
          subst (λ (w : RecordRefusal). EndsSo (verdicts.Refused w)) (sym is)
          (left_so left (omega (arith, count, all)) records.InputLimit (pending, sym count ∙ all))

      pub far_ended : (verdict : Verdict) → EndsTurn r.entries r.mode clock intake b c verdict → EndsSo verdict
      far_ended verdict (inl (why, is, refused, left)) =
          subst EndsSo (sym is) (left_so left (omega (arith, room, count, refused_some r.entries r.mode intake.reader.rest clock why refused)) why (as_refused why refused))
      far_ended verdict (inr (pending, e)) = at_rest pending verdict e

-- ---- what is given after the end of a log

-- what is given after the end of the input leaves it ended
end_gave : (bytes : List ℕ) (told told' : Option Exchange) → Gave bytes told told' → IsAtEnd told → IsAtEnd told'
end_gave bytes told told' gave ended = subst IsAtEnd (sym gave) (by told ended)
  where
    by : (told : Option Exchange) → IsAtEnd told → IsAtEnd (option_map (with_given bytes) told)
    by None h = h
    by (Some x) h = h

-- so the log has ended as it had
module _ (t : TakenLog) (before b c : Stream) (bytes : List ℕ) (gave : Gave bytes b.told c.told) (reads : c.read_faults ≡ b.read_faults) where
  refused_gave : (why : RecordRefusal) → IsRestRefusedAs t b why → IsRestRefusedAs t c why
  refused_gave (records.Log why) (inl h) = inl h
  refused_gave (records.Log why) (inr (is, truncated, met)) = inr (is, truncated, (met.0, end_gave bytes b.told c.told gave met.1))
  refused_gave (records.Falling given at) h = h
  refused_gave records.InputLimit h = h

  pub ends_gave : (verdict : Verdict) → LogEndsAs t before b verdict → LogEndsAs t before c verdict
  ends_gave verdicts.Accepted h = (h.0, (h.1.0, end_gave bytes b.told c.told gave h.1.1), reads ∙ h.2)
  ends_gave verdicts.Fault h = (h.0, reads ∙ h.1)
  ends_gave (verdicts.Refused why) h = (refused_gave why h.0, reads ∙ h.1)
