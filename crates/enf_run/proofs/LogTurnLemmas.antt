-- One turn more of the run of a log, and how it ends.
use Rattle.enf_run.proofs.Vocabulary.{◌≡◌, ℕ, ◌+◌, ◌*◌, ◌-◌, ◌^◌, ◌<◌, ◌≤◌, List, [], ◌∷◌, ◌++◌, length, length-append, None, false, inl, inr, sym, ap, subst, ◌∙◌, arith, Enforcing, out_steps, Stands}
use Rattle.enf_run.proofs.Vocabulary.{Step, Rule, text_of, behind_blanks, Reader, Input, BeginsWithRecord-shorter, behind-shorter, entry_names as names_of, NameEntry, UpToDate, LogSetting, reading_of}
use Rattle.enf_run.proofs.Vocabulary.{SaysActions, Seen, most_log_bytes, record_of, EndsTurn, TakesBytes, CutsRun, HasPlans, enforcer_setting, AnswersTurn, CutsTurn, EnforcesLater, EnforcesOne}
use Rattle.enf_run.proofs.Vocabulary.{IsNewLog, WritesNothing, reads_on, EnforcerLaws, Cut, Enforcement, Verdict}
use Rattle.enf_run.proofs.IntakeLemmas.{far_ended}
use Rattle.enf_run.proofs.LogLemmas.{item_time}
use Rattle.enf_run.proofs.TakenLogLemmas.{HasTaken, taken_more, taken_one}
use Rattle.enf_run.proofs.LogProgressLemmas.{Ended, MayRun, Progress, cut_holding, cut_memory, cut_taken, progress_more, progress_none, progress_one, setting, up_to_date}
use Rattle.trace_meaning.specs.meaning.Traces.{Record, StepRecord, Tick, recorded}
use Rattle.enf_run.specs.declared.endings.Cut.TheVariants as cuts

one_recorded : (next : Record) → length (recorded (next ∷ [])) ≤ 1
one_recorded (StepRecord step) = omega arith
one_recorded (Tick time) = omega arith

module _ (entries : List NameEntry) (rules : List Rule) (first : Enforcing) (trace : List Step) (laws : EnforcerLaws) (may : MayRun entries first) (built : HasPlans entries rules first) where
  module _ (before : Seen) (old : Enforcement) (taken : List ℕ) (b c : Seen)
      (h : Progress entries rules first trace before taken old.intake.reader.rest old.intake.accepted old.enforcer b)
      (count : old.intake.taken ≡ length taken)
      (room : old.intake.accepted + length old.intake.reader.rest ≤ old.intake.taken) (nothing : WritesNothing b c) where
    abbrev here : LogSetting
    here = setting entries rules first trace

    -- a turn ended the log
    pub ends_log : (verdict : Verdict) → EndsTurn entries Input old.enforcer.clock old.intake b.gate c.gate verdict
        → Ended entries rules first trace before taken old.intake.reader.rest old.intake.accepted old.enforcer verdict c
    ends_log verdict e =
        record {
          so_far = h.so_far;
          count = h.count;
          ended = far_ended (UpToDate here) before.gate taken (text_of (names_of entries) (out_steps h.so_far.out))
              b.gate c.gate h.far (reading_of here) h.so_far.read old.enforcer.clock h.so_far.course.clock old.intake
              count room
              (λ pending. up_to_date entries rules first trace laws may built taken old.intake.reader.rest old.enforcer h.so_far pending) verdict e;
          writes = nothing.gate ∙ h.writes;
          actions = subst (SaysActions entries rules h.so_far.out before.report) (sym nothing.report) h.actions;
        }

-- for each trace that the enforcer stood for, where it has the plans of the rules, so much was done
abbrev pub Done : List NameEntry → List Rule → Enforcing → Seen → List ℕ → Enforcement → Seen → Type 0
Done entries rules first before taken log after = (trace : List Step) → HasPlans entries rules first → Stands first trace
    → Progress entries rules first trace before taken log.intake.reader.rest log.intake.accepted log.enforcer after

-- the enforcer goes on, its clock is within the limit of saved states, and no more steps were emitted than records were
-- taken and units of time went by
pub record IsWithinLimits (log : Enforcement) : Type 0 where
  pub going : log.enforcer.stopped ≡ false
  pub clock : log.enforcer.clock ≤ 2000000000000000
  pub position : log.enforcer.position < 2 ^ 63 + log.intake.accepted + log.enforcer.clock

pub limits_none : (entries : List NameEntry) (log : Enforcement) → IsNewLog entries log → IsWithinLimits log
limits_none entries log new = record { going = new.going; clock = new.clock; position = omega (arith, new.position) }

-- of a new log nothing was taken
pub done_none : (entries : List NameEntry) (rules : List Rule) (log : Enforcement) (laws : EnforcerLaws) (may : MayRun entries log.enforcer) (before : Seen) → IsNewLog entries log
    → Done entries rules log.enforcer before [] log before
done_none entries rules log laws may before new trace built stands =
    let none = progress_none entries rules log.enforcer trace laws may built stands before in
    let at_rest = subst (λ (r : List ℕ). Progress entries rules log.enforcer trace before [] r 0 log.enforcer before) (sym (ap (λ (r : Reader). r.rest) new.intake.reader)) none in
    subst (λ (n : ℕ). Progress entries rules log.enforcer trace before [] log.intake.reader.rest n log.enforcer before) (sym new.intake.accepted) at_rest

-- a turn that does not end the log
module _ (entries : List NameEntry) (rules : List Rule) (first : Enforcing) (laws : EnforcerLaws) (may : MayRun entries first) (before : Seen) (old new : Enforcement) (taken : List ℕ) (b c : Seen)
    (h : Done entries rules first before taken old b) (limits : IsWithinLimits old)
    (count : old.intake.taken ≡ length taken) (most : old.intake.taken ≤ most_log_bytes)
    (room : old.intake.accepted + length old.intake.reader.rest ≤ old.intake.taken)
    (so_taken : HasTaken entries first.clock before taken old b) where
  -- what is known after it, and that less is left to do
  pub record GoesOn : Type 0 where
    pub bytes : List ℕ
    pub count_is : new.intake.taken ≡ length bytes
    pub within : new.intake.taken ≤ most_log_bytes
    pub room_is : new.intake.accepted + length new.intake.reader.rest ≤ new.intake.taken
    pub reader_is : new.intake.reader ≡ reads_on entries new.intake.reader.rest
    pub progress : Done entries rules first before bytes new c
    pub now_taken : HasTaken entries first.clock before bytes new c
    pub still : IsWithinLimits new
    pub less : 2 * (most_log_bytes - new.intake.taken) + length new.intake.reader.rest < 2 * (most_log_bytes - old.intake.taken) + length old.intake.reader.rest

  record_more : EnforcesOne entries rules old new b c → Done entries rules first before taken new c
  record_more one trace built stands =
      let t = one.takes in
      let more = progress_one entries rules first trace laws may built before taken old.intake.reader.rest
      old.intake.accepted old.enforcer b c (h trace built stands) new.intake.reader.rest t.item new.enforcer
      t.begins t.taken in
      subst (λ (n : ℕ). Progress entries rules first trace before taken new.intake.reader.rest n new.enforcer c) (sym one.accepted) more

  limits_more : EnforcesOne entries rules old new b c → IsWithinLimits new
  limits_more one =
      let t = one.takes in
      let takes = t.taken.takes in
      let few = laws.few old.enforcer (record_of t.item) t.taken.made new.enforcer takes in
      let recorded_once = one_recorded (record_of t.item) in
      let moved = takes.goes_on in
      record {
        going = moved.goes_on;
        clock = omega (arith, moved.clock_is, item_time entries _ t.item t.begins.2);
        position = omega (arith, takes.in_time.not_over, moved.clock_is, moved.position, few, recorded_once, one.accepted, limits.position);
      }

  piece_more : (later : EnforcesLater entries old new b c) → Done entries rules first before (taken ++ later.piece.bytes) new c
  piece_more later trace built stands =
      let piece = later.piece in
      let rest_is : new.intake.reader.rest ≡ behind_blanks old.intake.reader.rest ++ piece.bytes = ap (λ (r : Reader). r.rest) piece.reader in
      let takes = subst (λ (n : ℕ). TakesBytes (most_log_bytes - n) piece.bytes b.gate.told c.gate.told) count piece.takes in
      let more = progress_more entries rules first trace laws may built before taken old.intake.reader.rest
      old.intake.accepted old.enforcer b c (h trace built stands) piece.pending piece.bytes takes piece.some
      piece.reads later.nothing in
      let at_rest = subst (λ (r : List ℕ). Progress entries rules first trace before (taken ++ piece.bytes) r old.intake.accepted old.enforcer c) (sym rest_is) more in
      let at_count = subst (λ (n : ℕ). Progress entries rules first trace before (taken ++ piece.bytes) new.intake.reader.rest n old.enforcer c) (sym piece.accepted) at_rest in
      subst (λ (e : Enforcing). Progress entries rules first trace before (taken ++ piece.bytes) new.intake.reader.rest new.intake.accepted e c) (sym later.enforcer) at_count

  pub goes_on : AnswersTurn entries rules None old new b c → GoesOn
  goes_on (inl one) =
      let t = one.takes in
      let shorter = BeginsWithRecord-shorter entries Input old.intake.reader.rest t.item new.intake.reader.rest t.begins in
      record {
        bytes = taken;
        count_is = one.taken ∙ count;
        within = omega (arith, one.taken, most);
        room_is = omega (arith, one.taken, one.accepted, room, shorter);
        reader_is = t.reader_is;
        progress = record_more one;
        now_taken = taken_one entries rules first.clock before taken old new b c so_taken one;
        still = limits_more one;
        less = omega (arith, one.taken, shorter);
      }
  goes_on (inr later) =
      let piece = later.piece in
      let rest_is : new.intake.reader.rest ≡ behind_blanks old.intake.reader.rest ++ piece.bytes = ap (λ (r : Reader). r.rest) piece.reader in
      record {
        bytes = taken ++ piece.bytes;
        count_is = omega (arith, piece.taken, count, length-append taken piece.bytes);
        within = omega (arith, piece.taken, piece.takes.within, most);
        room_is = omega (arith, piece.taken, piece.accepted, room, ap length rest_is, length-append (behind_blanks old.intake.reader.rest) piece.bytes, behind-shorter old.intake.reader.rest);
        reader_is = piece.reader ∙ (λ i. reads_on entries (sym rest_is i));
        progress = piece_more later;
        now_taken = taken_more entries rules first.clock before taken old new b c so_taken count later;
        still = record {
          going = ap (λ (e : Enforcing). e.stopped) later.enforcer ∙ limits.going;
          clock = omega (arith, limits.clock, ap (λ (e : Enforcing). e.clock) later.enforcer);
          position = omega (arith, limits.position, piece.accepted, ap (λ (e : Enforcing). e.position) later.enforcer, ap (λ (e : Enforcing). e.clock) later.enforcer);
        };
        less = omega (
          arith,
          piece.taken,
          piece.takes.within,
          most,
          piece.some,
          ap length rest_is,
          length-append
              (behind_blanks old.intake.reader.rest) piece.bytes,
          behind-shorter old.intake.reader.rest,
        );
      }

-- a turn was cut
pub cut_run : (entries : List NameEntry) (rules : List Rule) (first : Enforcing) (trace : List Step) (laws : EnforcerLaws) (may : MayRun entries first) (built : HasPlans entries rules first)
    (before : Seen) (taken : List ℕ) (log : Enforcement) (b c : Seen)
    → Progress entries rules first trace before taken log.intake.reader.rest log.intake.accepted log.enforcer b
    → log.intake.taken ≡ length taken → log.intake.accepted + length log.intake.reader.rest ≤
    log.intake.taken
    → (cut : Cut) → CutsTurn entries rules log b c cut → CutsRun (enforcer_setting entries rules first trace) before c cut
cut_run entries rules first trace laws may built before taken log b c h count room cuts.WriteFault (inl t) =
    inr (inr (cut_holding entries rules first trace laws may built before taken log.intake.reader.rest log.intake.accepted log.enforcer b c h t))
cut_run entries rules first trace laws may built before taken log b c h count room cuts.WriteFault (inr t) =
    cut_taken entries rules first trace laws may built before taken log.intake.reader.rest log.intake.accepted log.enforcer b c h cuts.WriteFault (omega (arith, room, count)) t
cut_run entries rules first trace laws may built before taken log b c h count room cuts.NoMemory (inl t) = cut_memory entries rules first trace laws may built before taken log b c h count t
cut_run entries rules first trace laws may built before taken log b c h count room cuts.NoMemory (inr t) =
    cut_taken entries rules first trace laws may built before taken log.intake.reader.rest log.intake.accepted log.enforcer b c h cuts.NoMemory (omega (arith, room, count)) t
