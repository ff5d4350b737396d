-- How far the audit of a log has come, one turn more, and how it ends.
use Rattle.enf_run.proofs.Vocabulary.{◌≡◌, ℕ, ◌+◌, ◌*◌, ◌-◌, ◌<◌, ◌≤◌, List, [], ◌∷◌, ◌++◌, length, length-append, Option, None, Some, inl, inr, refl, sym, ap, subst, ◌∙◌, arith, append-nil}
use Rattle.enf_run.proofs.Vocabulary.{length_push, map-append, Stream, Step, StoredTyped, typed_of, SpellsRecords-append, SpellsRecords-blanks, SpellsRecords-none, SpellsRecords-push}
use Rattle.enf_run.proofs.Vocabulary.{BeginsWithRecord-shorter, behind-shorter, BeginsWithRecord, behind_blanks, Reader, LogItem, TraceLog, NameEntry, Auditing, Audits, audited_rules, IsVerdict}
use Rattle.enf_run.proofs.Vocabulary.{formulas_for, NeverFall, Record, StepRecord, Tick, clock_after, recorded, time_of, AnswersAudit, AnswersAuditTurn, AnswersRecord, AuditsLater, AuditsOne}
use Rattle.enf_run.proofs.Vocabulary.{LeavesCounts, LosesAuditTurn, AuditorTakes, WaitsAudit, HasAudited, GaveNothing, LosesLog, trace_log, Exchanged, AnswersRead, RefusesNext, TakesBytes, reads_in}
use Rattle.enf_run.proofs.Vocabulary.{most_log_bytes, record_of, records_of, AcceptsRecords, Intake, Verdict}
use Rattle.trace_audit.specs.declared.verdicts.Verdict.{Verdict as Found}
use Rattle.enf_run.specs.declared.audits.Audit.{Audit}
use Rattle.enf_run.specs.declared.intake.Next.{Next}
use Rattle.enf_run.proofs.IntakeLemmas.{IsBehindBlanks, IsFar, ends_intake, exchanged_more, far_ended, far_none, far_took, takes_more}
use Rattle.log_stream.specs.declared.items.LogItem.TheVariants as items
use Rattle.enf_run.specs.declared.intake.Next.TheVariants as nexts

-- ---- records, one after others

recorded-push : (records : List Record) (next : Record) → recorded (records ++ next ∷ []) ≡ recorded records ++ recorded (next ∷ [])
recorded-push [] next = refl
recorded-push (StepRecord step ∷ records) next = ap (λ (steps : List Step). step ∷ steps) (recorded-push records next)
recorded-push (Tick time ∷ records) next = recorded-push records next

pub never_fall-push : (clock : ℕ) (records : List Record) (next : Record) → NeverFall clock records → clock_after clock records ≤ time_of next → NeverFall clock (records ++ next ∷ [])
never_fall-push clock [] next h le = (le, tt)
never_fall-push clock (first ∷ records) next h le = (h.0, never_fall-push (time_of first) records next h.1 le)

pub clock-push : (clock : ℕ) (records : List Record) (next : Record) → clock_after clock (records ++ next ∷ []) ≡ time_of next
clock-push clock [] next = refl
clock-push clock (first ∷ records) next = clock-push (time_of first) records next

-- ---- what a turn does, from what its calls do

-- what became of the record that was read became of the front
pub answers_front : (entries : List NameEntry) (old new : Audit) (item : LogItem)
    → BeginsWithRecord entries TraceLog old.intake.reader.rest item new.intake.reader.rest → new.intake.reader
    ≡ reads_in entries TraceLog new.intake.reader.rest
    → (next : Next) → AnswersRecord (record_of item) next old.clock new.clock old.auditor new.auditor → AnswersAudit entries next old new
answers_front entries old new item begins reader nexts.Taken h = record { item = item; begins = begins; reader_is = reader; taken = h }
answers_front entries old new item begins reader nexts.Pending h = absurd h
answers_front entries old new item begins reader (nexts.Refused why) h = (
  subst (RefusesNext entries TraceLog old.intake.reader.rest old.clock) (sym h.falls) (refl, record { item = item; more = new.intake.reader.rest; begins = begins; time = refl; below = h.below }),
  h.same,
)

-- no record was whole, and blanks were let go
module _ (entries : List NameEntry) (old middle : Audit) (counts : LeavesCounts old middle) (waits : WaitsAudit entries old middle) where
  pub behind_blanks_now : IsBehindBlanks entries TraceLog old.intake middle.intake
  behind_blanks_now = record { pending = waits.pending; reader_is = waits.reader_is; accepted = counts.accepted; taken = counts.taken }

  -- the turn did what the read did
  pub turn_read : (a c : Stream) (new : Intake) (verdict : Option Verdict) → AnswersRead verdict middle.intake new a c
      → AnswersAuditTurn entries verdict old (record { intake = new; auditor = middle.auditor; clock = middle.clock }) a c
  turn_read a c new None g =
      inr (record { piece = takes_more entries TraceLog old.intake middle.intake behind_blanks_now new a c g; auditor = waits.auditor; clock = waits.clock })
  turn_read a c new (Some verdict) g =
      (g.0 ∙ counts.accepted, waits.auditor, inr (waits.pending, ends_intake entries TraceLog old.intake middle.intake behind_blanks_now a c verdict g.1))

-- ---- how far the audit has come

-- so much of the log was taken, nothing was given, and the auditor stands for the steps of the accepted records
pub record IsAudited (entries : List NameEntry) (before : Stream) (taken : List ℕ) (audit : Audit) (after : Stream) : Type 0 where
  pub read : List LogItem
  pub accepts : AcceptsRecords entries TraceLog 0 taken read audit.intake.reader.rest
  pub count : audit.intake.accepted ≡ length read
  pub far : IsFar GaveNothing before taken [] after
  pub clock : audit.clock ≡ clock_after 0 (records_of read)
  pub stands : Audits audit.auditor (recorded (records_of read))

-- its counts are within their limits
pub record IsWithin (audit : Audit) : Type 0 where
  pub last : audit.auditor.last ≤ audit.clock
  pub position : audit.auditor.position ≤ audit.intake.accepted
  pub most : audit.intake.taken ≤ most_log_bytes
  pub left : audit.intake.accepted + length audit.intake.reader.rest ≤ audit.intake.taken

module _ (entries : List NameEntry) (before : Stream) where
  -- before any call
  pub audited_none : (audit : Audit) → audit.intake.reader ≡ reads_in entries TraceLog []
      → audit.intake.accepted ≡ 0 → audit.clock ≡ 0 → Audits audit.auditor []
      → IsAudited entries before [] audit before
  audited_none audit reader accepted clock stands =
      record {
        read = [];
        accepts = subst (λ (rest : List ℕ). AcceptsRecords entries TraceLog 0 [] [] rest)
            (sym (ap (λ (r : Reader). r.rest) reader))
            (record { spelled = SpellsRecords-none entries TraceLog []; rising = tt });
        count = accepted;
        far = far_none GaveNothing before;
        clock = clock;
        stands = stands;
      }

  -- memory ran out before any call
  pub lost_at_once : LosesLog entries before before
  lost_at_once =
      let far = far_none GaveNothing before in
      record {
        log = record { taken = []; given = []; exchanged = far.exchanged; read = []; rest = []; accepts = record { spelled = SpellsRecords-none entries TraceLog []; rising = tt } };
        nothing = refl;
        reads = refl;
      }

  -- the auditor stands for the steps with the next record's among them
  stands_more : (item : LogItem) (old new : Auditing) (records : List Record)
      → AuditorTakes (record_of item) old new → Audits old (recorded records)
      → Audits new (recorded records ++ recorded (record_of item ∷ []))
  stands_more (items.Step kind time events) old new records taken stands = taken.stands (recorded records) stands
  stands_more (items.Tick time) old new records taken stands =
      subst (Audits new) (sym (append-nil (recorded records))) (subst (λ (a : Auditing). Audits a (recorded records)) (sym taken) stands)

  module _ (taken : List ℕ) (old new : Audit) (b c : Stream) (h : IsAudited entries before taken old b) where
    -- one record more was taken
    pub audited_one : AuditsOne entries old new b c → IsAudited entries before taken new c
    audited_one one =
        let item = one.next.item in
        let records = records_of h.read in
        let a = one.next.taken in
        let is : records_of (h.read ++ item ∷ []) ≡ records ++ record_of item ∷ [] = map-append record_of h.read (item ∷ []) in
        record {
          read = h.read ++ item ∷ [];
          accepts = record {
            spelled = SpellsRecords-push entries TraceLog taken h.read old.intake.reader.rest item new.intake.reader.rest h.accepts.spelled one.next.begins;
            rising = subst (NeverFall 0) (sym is) (never_fall-push 0 records (record_of item) h.accepts.rising (omega (arith, a.not_below, h.clock)));
          };
          count = omega (arith, one.accepted, h.count, length_push h.read item);
          far = subst (IsFar GaveNothing before taken []) (sym one.gate) h.far;
          clock = a.clock_is ∙ sym (clock-push 0 records (record_of item)) ∙ ap (clock_after 0) (sym is);
          stands = subst (Audits new.auditor) (sym (recorded-push records (record_of item)) ∙ ap recorded (sym is)) (stands_more item old.auditor new.auditor records a.taken h.stands);
        }

    abbrev read_more : (bytes : List ℕ) → AcceptsRecords entries TraceLog 0 (taken ++ bytes) h.read (behind_blanks old.intake.reader.rest ++ bytes)
    read_more bytes =
        record {
          spelled = SpellsRecords-append entries TraceLog taken h.read (behind_blanks old.intake.reader.rest) bytes
              (SpellsRecords-blanks entries TraceLog taken h.read old.intake.reader.rest h.accepts.spelled);
          rising = h.accepts.rising;
        }

    -- a piece more was taken
    pub audited_more : old.intake.taken ≡ length taken → (later : AuditsLater entries old new b c) → IsAudited entries before (taken ++ later.piece.bytes) new c
    audited_more count later =
        let p = later.piece in
        let takes = subst (λ (n : ℕ). TakesBytes (most_log_bytes - n) p.bytes b.told c.told) count p.takes in
        record {
          read = h.read;
          accepts = subst (AcceptsRecords entries TraceLog 0 (taken ++ p.bytes) h.read) (sym (ap (λ (r : Reader). r.rest) p.reader)) (read_more p.bytes);
          count = p.accepted ∙ h.count;
          far = far_took GaveNothing before taken [] b c h.far refl p.bytes takes p.some p.reads;
          clock = later.clock ∙ h.clock;
          stands = subst (λ (a : Auditing). Audits a (recorded (records_of h.read))) (sym later.auditor) h.stands;
        }

    -- memory ran out
    pub audit_lost : old.intake.taken ≡ length taken → LosesAuditTurn old b c → LosesLog entries before c
    audit_lost count (inl same, reads) =
        record {
          log = record {
            taken = taken;
            given = [];
            exchanged = subst (λ o. Exchanged GaveNothing taken [] before.told o) (sym same) h.far.exchanged;
            read = h.read;
            rest = old.intake.reader.rest;
            accepts = h.accepts;
          };
          nothing = refl;
          reads = reads ∙ h.far.reads;
        }
    audit_lost count (inr lost, reads) =
        let takes = subst (λ (n : ℕ). TakesBytes (most_log_bytes - n) lost.bytes b.told c.told) count lost.takes in
        record {
          log = record {
            taken = taken ++ lost.bytes;
            given = [];
            exchanged = exchanged_more GaveNothing before taken [] b c h.far refl lost.bytes takes;
            read = h.read;
            rest = behind_blanks old.intake.reader.rest ++ lost.bytes;
            accepts = read_more lost.bytes;
          };
          nothing = refl;
          reads = reads ∙ h.far.reads;
        }

    -- the log ended
    pub has_audited : (policy : StoredTyped) (verdict : Verdict) (found : Found) → old.intake.taken ≡ length taken → old.intake.accepted + length old.intake.reader.rest ≤ old.intake.taken
        → old.auditor.policy ≡ policy → AnswersAuditTurn entries (Some verdict) old new b c
        → ((trace : List Step) → Audits new.auditor trace → IsVerdict (audited_rules new.auditor) trace found)
        → HasAudited entries (typed_of policy).plans (record { judged = record { accepted = new.intake.accepted; verdict = verdict }; found = found }) before c
    has_audited policy verdict found count room same turn verdict_is =
        let ended = far_ended GaveNothing before taken [] b c h.far (trace_log entries) h.read old.clock h.clock old.intake count room (λ pending. refl) verdict turn.2 in
        let stands = subst (λ (a : Auditing). Audits a (recorded (records_of h.read))) (sym turn.1) h.stands in
        let policy_is : new.auditor.policy ≡ policy = ap (λ (a : Auditing). a.policy) turn.1 ∙ same in
        record {
          ended = record {
            log = record { taken = taken; given = []; exchanged = ended.exchanged; read = h.read; rest = old.intake.reader.rest; accepts = h.accepts };
            ends = ended.ends;
          };
          nothing = refl;
          count = turn.0 ∙ h.count;
          found = subst (λ (p : StoredTyped). IsVerdict (formulas_for (typed_of p).plans) (recorded (records_of h.read)) found) policy_is (verdict_is (recorded (records_of h.read)) stands);
        }

-- ---- a turn that does not end the log

module _ (entries : List NameEntry) (before : Stream) (policy : StoredTyped) (old new : Audit) (taken : List ℕ)
    (b c : Stream) (h : IsAudited entries before taken old b) (within : IsWithin old)
    (count : old.intake.taken ≡ length taken)
    (same : old.auditor.policy ≡ policy) where
  -- what is known after it, and that less is left to do
  pub record GoesOn : Type 0 where
    pub bytes : List ℕ
    pub count_is : new.intake.taken ≡ length bytes
    pub still : IsWithin new
    pub reader_is : new.intake.reader ≡ reads_in entries TraceLog new.intake.reader.rest
    pub policy_is : new.auditor.policy ≡ policy
    pub audited : IsAudited entries before bytes new c
    pub less : 2 * (most_log_bytes - new.intake.taken) + length new.intake.reader.rest < 2 * (most_log_bytes - old.intake.taken) + length old.intake.reader.rest

  -- a step is one position more, and its time is the last; a tick leaves both
  moved : (item : LogItem) → AuditorTakes (record_of item) old.auditor new.auditor → old.clock ≤ time_of (record_of item)
      → (new.auditor.last ≤ time_of (record_of item)) × (new.auditor.position ≤ old.auditor.position + 1) × (new.auditor.policy ≡ policy)
  moved (items.Step kind time events) t le = (omega (arith, t.last), omega (arith, t.position), t.policy ∙ same)
  moved (items.Tick time) t le =
      (omega (arith, ap (λ (a : Auditing). a.last) t, within.last, le), omega (arith, ap (λ (a : Auditing). a.position) t), ap (λ (a : Auditing). a.policy) t ∙ same)

  pub goes_on : AnswersAuditTurn entries None old new b c → GoesOn
  goes_on (inl one) =
      let a = one.next.taken in
      let m = moved one.next.item a.taken a.not_below in
      let shorter = BeginsWithRecord-shorter entries TraceLog old.intake.reader.rest one.next.item new.intake.reader.rest one.next.begins in
      record {
        bytes = taken;
        count_is = one.taken ∙ count;
        still = record {
          last = omega (arith, m.0, a.clock_is);
          position = omega (arith, m.1, within.position, one.accepted);
          most = omega (arith, one.taken, within.most);
          left = omega (arith, one.taken, one.accepted, within.left, shorter);
        };
        reader_is = one.next.reader_is;
        policy_is = m.2;
        audited = audited_one entries before taken old new b c h one;
        less = omega (arith, one.taken, shorter);
      }
  goes_on (inr later) =
      let p = later.piece in
      let rest_is : new.intake.reader.rest ≡ behind_blanks old.intake.reader.rest ++ p.bytes = ap (λ (r : Reader). r.rest) p.reader in
      record {
        bytes = taken ++ p.bytes;
        count_is = omega (arith, p.taken, count, length-append taken p.bytes);
        still = record {
          last = omega (arith, ap (λ (a : Auditing). a.last) later.auditor, later.clock, within.last);
          position = omega (arith, ap (λ (a : Auditing). a.position) later.auditor, within.position, p.accepted);
          most = omega (arith, p.taken, p.takes.within, within.most);
          left = omega (arith, p.taken, p.accepted, within.left, ap length rest_is, length-append (behind_blanks old.intake.reader.rest) p.bytes, behind-shorter old.intake.reader.rest);
        };
        reader_is = p.reader ∙ (λ i. reads_in entries TraceLog (sym rest_is i));
        policy_is = ap (λ (a : Auditing). a.policy) later.auditor ∙ same;
        audited = audited_more entries before taken old new b c h count later;
        less = omega (arith, p.taken, p.takes.within, within.most, p.some, ap length rest_is, length-append (behind_blanks old.intake.reader.rest) p.bytes, behind-shorter old.intake.reader.rest);
      }
