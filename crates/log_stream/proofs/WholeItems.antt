-- A step or a tick as a whole.
use Rattle.log_stream.proofs.Vocabulary.{◌≡◌, ℕ, ◌<◌, ◌≤◌, nat_lt, ◌==◌, Bool, true, false, List, [], ◌∷◌, ◌++◌, length, Option, None, Some, Result, Ok, Err, if◌then◌else◌, refl, sym, ap, subst, ◌∙◌}
use Rattle.log_stream.proofs.Vocabulary.{arith, option_map, option_or, flat_map, nat_tests, InsertsEach, Event, NameEntry, Sort, StepKind, System, Inserted, LogItem, LogMode, Input, TraceLog}
use Rattle.log_stream.proofs.Vocabulary.{LogRefusal, BadRecord, UnknownName, Arity, SortClash, TooLong, TimeTooLarge, Truncated, NoMemory, argument_clash, event_refusal, event_refusal_by}
use Rattle.log_stream.proofs.Vocabulary.{entry_of_name, events_from_written, first_event_refusal, judged_record, judged_step, with_events_put, LogMark, LogTime, IsLogTokenAt, LogTokensLead}
use Rattle.log_stream.proofs.Vocabulary.{WrittenEvent, WrittenRecord, Line, TickLine, ModeReads, IsRecordSpelled, event_tokens, mark_of, record_tokens, most_time, RecordStart, RecordMarked, Ticking}
use Rattle.log_stream.proofs.Vocabulary.{Ticked, Events, FailsReading, GivesRecordAnswer, record_next, record_run}
use Rattle.log_stream.proofs.EventLists.{ReadsEvents}
use Rattle.log_stream.proofs.StateFronts.{run_onto}
use Rattle.log_stream.proofs.RecordParts.{fails_bad, fails_gives, firsts_put}
use Rattle.log_stream.proofs.ReadParts.{bad_behind, bad_here, fails_behind, leads-append, stuck_marked, stuck_start, stuck_ticked, stuck_ticking}
use Rattle.log_stream.proofs.OneLog.{ok_not_err, err_is}
use Rattle.log_stream.specs.declared.items.LogItem.TheVariants as items

-- the state after the mark of a step
run_mark : (mode : LogMode) (kind : StepKind) → ModeReads mode kind → record_run mode RecordStart (LogMark (mark_of kind) ∷ []) ≡ Some (RecordMarked kind)
run_mark mode System read = refl
run_mark TraceLog Inserted read = refl
run_mark Input Inserted read = absurd read

pub step_without_time : (entries : List NameEntry) (mode : LogMode) (kind : StepKind) (bytes : List ℕ) (from : ℕ) (refusal : LogRefusal) → ModeReads mode kind
    → LogTokensLead bytes 0 (LogMark (mark_of kind) ∷ []) from → ((time end : ℕ) → IsLogTokenAt bytes from end (LogTime time) → ⊥) → refusal ≡ BadRecord from
    → GivesRecordAnswer entries mode bytes (Err refusal)
step_without_time entries mode kind bytes from refusal read l none is =
    fails_gives entries mode bytes refusal
    (fails_bad mode bytes 0 RecordStart from refusal is
    (bad_behind mode bytes 0 from RecordStart (RecordMarked kind) (LogMark (mark_of kind) ∷ []) from l (run_mark mode kind read)
    (bad_here mode bytes from (RecordMarked kind) (stuck_marked mode bytes from kind none))))

head_leads : (kind : StepKind) (bytes : List ℕ) (from record_next time : ℕ) → LogTokensLead bytes 0 (LogMark (mark_of kind) ∷ []) from
    → LogTokensLead bytes from (LogTime time ∷ []) record_next → LogTokensLead bytes 0 (LogMark (mark_of kind) ∷ LogTime time ∷ []) record_next
head_leads kind bytes from record_next time l t = leads-append bytes 0 from record_next (LogMark (mark_of kind) ∷ []) (LogTime time ∷ []) l t

run_head : (mode : LogMode) (kind : StepKind) (time : ℕ) → ModeReads mode kind → record_run mode RecordStart (LogMark (mark_of kind) ∷ LogTime time ∷ []) ≡ Some (Events kind time [])
run_head mode kind time read = run_onto mode RecordStart (RecordMarked kind) (LogMark (mark_of kind) ∷ []) (LogTime time ∷ []) (run_mark mode kind read)

pub step_with_bad_events : (entries : List NameEntry) (mode : LogMode) (kind : StepKind) (bytes : List ℕ) (from record_next time : ℕ) (refusal : LogRefusal) → ModeReads mode kind
    → LogTokensLead bytes 0 (LogMark (mark_of kind) ∷ []) from → LogTokensLead bytes from (LogTime time ∷ []) record_next
    → FailsReading mode bytes record_next (Events kind time []) refusal → GivesRecordAnswer entries mode bytes (Err refusal)
step_with_bad_events entries mode kind bytes from record_next time refusal read l t fails =
    fails_gives entries mode bytes refusal
    (fails_behind mode bytes 0 record_next RecordStart (Events kind time []) (LogMark (mark_of kind) ∷ LogTime time ∷ []) refusal (head_leads kind bytes from record_next time l t)
    (run_head mode kind time read) fails)

-- all tokens of the step
step_leads : (entries : List NameEntry) (kind : StepKind) (bytes : List ℕ) (from record_next time end : ℕ) (events : Result (List Event) LogRefusal)
    → LogTokensLead bytes 0 (LogMark (mark_of kind) ∷ []) from → LogTokensLead bytes from (LogTime time ∷ []) record_next → (r : ReadsEvents entries bytes record_next events end)
    → LogTokensLead bytes 0 (record_tokens (Line kind time r.written)) end
step_leads entries kind bytes from record_next time end events l t r =
    leads-append bytes 0 record_next end (LogMark (mark_of kind) ∷ LogTime time ∷ []) (flat_map event_tokens r.written ++ LogMark 59 ∷ []) (head_leads kind bytes from record_next time l t) r.leads

-- a step is spelled
pub step_spelled : (entries : List NameEntry) (mode : LogMode) (kind : StepKind) (bytes : List ℕ) (from record_next time end : ℕ) (events : Result (List Event) LogRefusal)
    → ModeReads mode kind → LogTokensLead bytes 0 (LogMark (mark_of kind) ∷ []) from → LogTokensLead bytes from (LogTime time ∷ []) record_next
    → (r : ReadsEvents entries bytes record_next events end) → end ≡ length bytes → IsRecordSpelled mode bytes (Line kind time r.written)
step_spelled entries mode kind bytes from record_next time end events read l t r whole =
    ((read, r.few), subst (LogTokensLead bytes 0 (record_tokens (Line kind time r.written))) whole (step_leads entries kind bytes from record_next time end events l t r))

late : (most time : ℕ) (x y : Result LogItem LogRefusal) → most < time → (if nat_lt most time then x else y) ≡ x
late most time x y h = let t : nat_lt most time ≡ true = grind (arith, nat_tests) in ap (λ b. if b then x else y) t

pub in_time : (most time : ℕ) (x y : Result LogItem LogRefusal) → time ≤ most → (if nat_lt most time then x else y) ≡ y
in_time most time x y h = let t : nat_lt most time ≡ false = grind (arith, nat_tests) in ap (λ b. if b then x else y) t

-- an answer to a spelled record
pub answers : (entries : List NameEntry) (mode : LogMode) (bytes : List ℕ) (written : WrittenRecord) (answer : Result LogItem LogRefusal) → IsRecordSpelled mode bytes written
    → judged_record entries written ≡ answer → ((place : ℕ) → answer ≡ Err (BadRecord place) → ⊥) → GivesRecordAnswer entries mode bytes answer
answers entries mode bytes written (Ok item) spelled is clear = (written, spelled, is)
answers entries mode bytes written (Err NoMemory) spelled is clear = tt
answers entries mode bytes written (Err (BadRecord place)) spelled is clear = absurd (clear place refl)
answers entries mode bytes written (Err (UnknownName place)) spelled is clear = (written, spelled, is)
answers entries mode bytes written (Err (Arity place)) spelled is clear = (written, spelled, is)
answers entries mode bytes written (Err (SortClash place)) spelled is clear = (written, spelled, is)
answers entries mode bytes written (Err TooLong) spelled is clear = (written, spelled, is)
answers entries mode bytes written (Err TimeTooLarge) spelled is clear = (written, spelled, is)
answers entries mode bytes written (Err Truncated) spelled is clear = (written, spelled, is)

pub step_too_late : (entries : List NameEntry) (mode : LogMode) (kind : StepKind) (bytes : List ℕ) (from record_next time end : ℕ) (events : Result (List Event) LogRefusal)
    → ModeReads mode kind → LogTokensLead bytes 0 (LogMark (mark_of kind) ∷ []) from → LogTokensLead bytes from (LogTime time ∷ []) record_next
    → ReadsEvents entries bytes record_next events end → end ≡ length bytes → most_time kind < time → GivesRecordAnswer entries mode bytes (Err TimeTooLarge)
step_too_late entries mode kind bytes from record_next time end events read l t r whole h = (
  Line kind time r.written,
  step_spelled entries mode kind bytes from record_next time end events read l t r whole,
  late (most_time kind) time (Err TimeTooLarge)
      (judged_step kind time (events_from_written entries r.written) (first_event_refusal entries r.written)) h,
)

-- what a record is refused for, once its tokens are those of one
abbrev pub IsJudged : LogRefusal → Type 0
IsJudged (UnknownName place) = Unit {0}
IsJudged (Arity place) = Unit {0}
IsJudged (SortClash place) = Unit {0}
IsJudged TimeTooLarge = Unit {0}
IsJudged (BadRecord place) = ⊥
IsJudged TooLong = ⊥
IsJudged Truncated = ⊥
IsJudged NoMemory = ⊥

some_refusal : (x y : LogRefusal) → Some x ≡ Some y → x ≡ y
some_refusal x y e = cc

event_judged : (entries : List NameEntry) (event : WrittenEvent) (refusal : LogRefusal) → event_refusal entries event ≡ Some refusal → IsJudged refusal
event_judged entries event refusal = by (entry_of_name entries event.name)
  where
    clashes : (c : Option ℕ) → option_map SortClash c ≡ Some refusal → IsJudged refusal
    clashes None e = cc
    clashes (Some p) e = subst IsJudged (some_refusal (SortClash p) refusal e) tt

    chosen : (b : Bool) (sorts : List Sort) → (if b then option_map SortClash (argument_clash sorts event.args) else Some (Arity event.place)) ≡ Some refusal → IsJudged refusal
    chosen true sorts e = clashes (argument_clash sorts event.args) e
    chosen false sorts e = subst IsJudged (some_refusal (Arity event.place) refusal e) tt

    by : (entry : Option NameEntry) → event_refusal_by entry event ≡ Some refusal → IsJudged refusal
    by None e = subst IsJudged (some_refusal (UnknownName event.place) refusal e) tt
    by (Some entry) e = chosen (length event.args == length entry.sorts) entry.sorts e

events_judged : (entries : List NameEntry) (events : List WrittenEvent) (refusal : LogRefusal) → first_event_refusal entries events ≡ Some refusal → IsJudged refusal
events_judged entries [] refusal e = cc
events_judged entries (event ∷ events) refusal e = by (event_refusal entries event) refl e (events_judged entries events refusal)
  where
    by : (o : Option LogRefusal) → event_refusal entries event ≡ o → option_or o (first_event_refusal entries events) ≡ Some refusal
        → (first_event_refusal entries events ≡ Some refusal → IsJudged refusal) → IsJudged refusal
    by None p e later = later e
    by (Some r) p e later = event_judged entries event refusal (p ∙ e)

pub refusal_judged : (entries : List NameEntry) (written : WrittenRecord) (refusal : LogRefusal) → judged_record entries written ≡ Err refusal → IsJudged refusal
refusal_judged entries (TickLine time) refusal e = by (nat_lt (most_time System) time) e
  where
    by : (b : Bool) → (if b then Err TimeTooLarge else Ok (items.Tick time)) ≡ Err refusal → IsJudged refusal
    by true e = subst IsJudged (err_is TimeTooLarge refusal e) tt
    by false e = absurd (ok_not_err (items.Tick time) refusal e)
refusal_judged entries (Line kind time events) refusal e = by (nat_lt (most_time kind) time) e
  where
    inner : (o : Option LogRefusal) → first_event_refusal entries events ≡ o → judged_step kind time (events_from_written entries events) o ≡ Err refusal → IsJudged refusal
    inner None p e = absurd (ok_not_err (items.Step kind time (events_from_written entries events)) refusal e)
    inner (Some r) p e = events_judged entries events refusal (p ∙ ap Some (err_is r refusal e))

    by : (b : Bool) → (if b then Err TimeTooLarge else judged_step kind time (events_from_written entries events) (first_event_refusal entries events)) ≡ Err refusal → IsJudged refusal
    by true e = subst IsJudged (err_is TimeTooLarge refusal e) tt
    by false e = inner (first_event_refusal entries events) refl e

pub step_refused : (entries : List NameEntry) (mode : LogMode) (kind : StepKind) (bytes : List ℕ) (from record_next time end : ℕ) (refusal : LogRefusal) → ModeReads mode kind
    → LogTokensLead bytes 0 (LogMark (mark_of kind) ∷ []) from → LogTokensLead bytes from (LogTime time ∷ []) record_next → ReadsEvents entries bytes record_next (Err refusal) end
    → end ≡ length bytes → time ≤ most_time kind → GivesRecordAnswer entries mode bytes (Err refusal)
step_refused entries mode kind bytes from record_next time end refusal read l t r whole h =
    answers entries mode bytes (Line kind time r.written) (Err refusal) (step_spelled entries mode kind bytes from record_next time end (Err refusal) read l t r whole)
    (in_time (most_time kind) time (Err TimeTooLarge) (judged_step kind time (events_from_written entries r.written) (first_event_refusal entries r.written)) h ∙ ap
    (judged_step kind time (events_from_written entries r.written)) r.judged)
    (λ place e. subst IsJudged (err_is refusal (BadRecord place) e) (events_judged entries r.written refusal r.judged))

pub step_read : (entries : List NameEntry) (mode : LogMode) (kind : StepKind) (bytes : List ℕ) (from record_next time end : ℕ) (events set : List Event) → ModeReads mode kind
    → LogTokensLead bytes 0 (LogMark (mark_of kind) ∷ []) from → LogTokensLead bytes from (LogTime time ∷ []) record_next → ReadsEvents entries bytes record_next (Ok events) end
    → InsertsEach [] events set → end ≡ length bytes → time ≤ most_time kind → GivesRecordAnswer entries mode bytes (Ok (items.Step kind time set))
step_read entries mode kind bytes from record_next time end events set read l t r firsts whole h = (
  Line kind time r.written,
  step_spelled entries mode kind bytes from record_next time end (Ok events) read l t r whole,
  in_time (most_time kind) time (Err TimeTooLarge) (judged_step kind time (events_from_written entries r.written) (first_event_refusal entries r.written)) h
      ∙ ap (judged_step kind time (events_from_written entries r.written)) r.judged.0
      ∙ ap (λ es. Ok (items.Step kind time es)) (sym (firsts_put [] events set firsts ∙ ap (with_events_put []) r.judged.1)),
)

-- ticks
pub tick_without_time : (entries : List NameEntry) (mode : LogMode) (bytes : List ℕ) (from : ℕ) (refusal : LogRefusal) → LogTokensLead bytes 0 (LogMark 62 ∷ []) from
    → ((time end : ℕ) → IsLogTokenAt bytes from end (LogTime time) → ⊥) → refusal ≡ BadRecord from → GivesRecordAnswer entries mode bytes (Err refusal)
tick_without_time entries mode bytes from refusal l none is =
    fails_gives entries mode bytes refusal
    (fails_bad mode bytes 0 RecordStart from refusal is
    (bad_behind mode bytes 0 from RecordStart Ticking (LogMark 62 ∷ []) from l refl (bad_here mode bytes from Ticking (stuck_ticking mode bytes from none))))

tick_head : (bytes : List ℕ) (from record_next time : ℕ) → LogTokensLead bytes 0 (LogMark 62 ∷ []) from → LogTokensLead bytes from (LogTime time ∷ []) record_next
    → LogTokensLead bytes 0 (LogMark 62 ∷ LogTime time ∷ []) record_next
tick_head bytes from record_next time l t = leads-append bytes 0 from record_next (LogMark 62 ∷ []) (LogTime time ∷ []) l t

pub tick_without_end : (entries : List NameEntry) (mode : LogMode) (bytes : List ℕ) (from record_next time : ℕ) (refusal : LogRefusal) → LogTokensLead bytes 0 (LogMark 62 ∷ []) from
    → LogTokensLead bytes from (LogTime time ∷ []) record_next → ((end : ℕ) → IsLogTokenAt bytes record_next end (LogMark 59) → ⊥) → refusal ≡ BadRecord record_next
    → GivesRecordAnswer entries mode bytes (Err refusal)
tick_without_end entries mode bytes from record_next time refusal l t none is =
    fails_gives entries mode bytes refusal
    (fails_bad mode bytes 0 RecordStart record_next refusal is
    (bad_behind mode bytes 0 record_next RecordStart (Ticked time) (LogMark 62 ∷ LogTime time ∷ []) record_next (tick_head bytes from record_next time l t) refl
    (bad_here mode bytes record_next (Ticked time) (stuck_ticked mode bytes record_next time none))))

tick_leads : (bytes : List ℕ) (from record_next time end : ℕ) → LogTokensLead bytes 0 (LogMark 62 ∷ []) from → LogTokensLead bytes from (LogTime time ∷ []) record_next
    → LogTokensLead bytes record_next (LogMark 59 ∷ []) end → LogTokensLead bytes 0 (record_tokens (TickLine time)) end
tick_leads bytes from record_next time end l t s = leads-append bytes 0 record_next end (LogMark 62 ∷ LogTime time ∷ []) (LogMark 59 ∷ []) (tick_head bytes from record_next time l t) s

pub tick_too_late : (entries : List NameEntry) (mode : LogMode) (bytes : List ℕ) (from record_next time end : ℕ) → LogTokensLead bytes 0 (LogMark 62 ∷ []) from
    → LogTokensLead bytes from (LogTime time ∷ []) record_next → LogTokensLead bytes record_next (LogMark 59 ∷ []) end → end ≡ length bytes → most_time System < time
    → GivesRecordAnswer entries mode bytes (Err TimeTooLarge)
tick_too_late entries mode bytes from record_next time end l t s whole h = (
  TickLine time,
  (tt, subst (LogTokensLead bytes 0 (record_tokens (TickLine time))) whole (tick_leads bytes from record_next time end l t s)),
  late (most_time System) time
      (Err TimeTooLarge) (Ok (items.Tick time)) h,
)

pub tick_read : (entries : List NameEntry) (mode : LogMode) (bytes : List ℕ) (from record_next time end : ℕ) → LogTokensLead bytes 0 (LogMark 62 ∷ []) from
    → LogTokensLead bytes from (LogTime time ∷ []) record_next → LogTokensLead bytes record_next (LogMark 59 ∷ []) end → end ≡ length bytes → time ≤ most_time System
    → GivesRecordAnswer entries mode bytes (Ok (items.Tick time))
tick_read entries mode bytes from record_next time end l t s whole h = (
  TickLine time,
  (tt, subst (LogTokensLead bytes 0 (record_tokens (TickLine time))) whole (tick_leads bytes from record_next time end l t s)),
  in_time (most_time System) time
      (Err TimeTooLarge) (Ok (items.Tick time)) h,
)

-- no mark of a record
pub none_marked : (entries : List NameEntry) (mode : LogMode) (bytes : List ℕ) (refusal : LogRefusal) → ((end : ℕ) → IsLogTokenAt bytes 0 end (LogMark 64) → ⊥)
    → ((end : ℕ) → IsLogTokenAt bytes 0 end (LogMark 62) → ⊥) → ((end : ℕ) → mode ≡ TraceLog → IsLogTokenAt bytes 0 end (LogMark 43) → ⊥) → refusal ≡ BadRecord 0
    → GivesRecordAnswer entries mode bytes (Err refusal)
none_marked entries mode bytes refusal no_at no_tick no_plus is =
    fails_gives entries mode bytes refusal (fails_bad mode bytes 0 RecordStart 0 refusal is (bad_here mode bytes 0 RecordStart (stuck_start mode bytes 0 no_at no_tick no_plus)))
