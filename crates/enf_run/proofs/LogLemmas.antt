-- Records at the front of a log: how many bytes they have, their times, and that no event stands twice in them.
use Rattle.enf_run.proofs.Vocabulary.{◌≡◌, ℕ, ◌≤◌, nat_lt, Bool, true, false, List, [], ◌∷◌, ◌++◌, map, Option, None, Some, Result, Ok, Err, if◌then◌else◌, refl, sym, subst, ◌∙◌, arith, true≢false}
use Rattle.enf_run.proofs.Vocabulary.{nat_tests, AreDistinct, has_event, has_event-Decides, HasNoRepeats, HasNoRepeats-push, Event, IsRecordAnswer, event_from_written, events_from_written}
use Rattle.enf_run.proofs.Vocabulary.{first_event_refusal, judged_step, with_event_put, with_events_put, SpellsRecords, Line, TickLine, LogItem, LogMode, Input, LogRefusal, TimeTooLarge, ok_is}
use Rattle.enf_run.proofs.Vocabulary.{NameEntry, most_time, time_of, StepKind, System, Inserted, record_of, records_of}
use Rattle.log_stream.specs.declared.items.LogItem.TheVariants as items

-- a step that is read has its time
step_time : (kind : StepKind) (most : ℕ) (item : LogItem) (time : ℕ) (events : List Event)
    (refusal : Option LogRefusal) → judged_step kind time events refusal ≡ Ok item → time ≤ most
    → time_of (record_of item) ≤ most
step_time kind most item time events None is le = subst (λ (x : LogItem). time_of (record_of x) ≤ most) (ok_is (items.Step kind time events) item is) le
step_time kind most item time events (Some refusal) is le = cc

tick_time : (most : ℕ) (item : LogItem) (time : ℕ) → ◌≡◌ {A = Result LogItem LogRefusal}
    (if nat_lt 1000000000000000 time then Err TimeTooLarge else Ok (items.Tick time)) (Ok item)
    → 1000000000000000 ≤ most → time_of (record_of item) ≤ most
tick_time most item time is le = by (nat_lt 1000000000000000 time) refl is
  where
    by : (b : Bool) → nat_lt 1000000000000000 time ≡ b
        → ◌≡◌ {A = Result LogItem LogRefusal} (if b then Err TimeTooLarge else Ok (items.Tick time)) (Ok item) → time_of (record_of item) ≤ most
    by true e is = cc
    by false e is = subst (λ (x : LogItem). time_of (record_of x) ≤ most) (ok_is (items.Tick time) item is) (grind (arith, nat_tests, e, le))

line_time : (kind : StepKind) (most : ℕ) (item : LogItem) (time : ℕ) (events : List Event) (refusal : Option LogRefusal)
    → ◌≡◌ {A = Result LogItem LogRefusal} (if nat_lt (most_time kind) time then Err TimeTooLarge else
    judged_step kind time events refusal) (Ok item) → most_time kind ≤ most
    → time_of (record_of item) ≤ most
line_time kind most item time events refusal is le = by (nat_lt (most_time kind) time) refl is
  where
    by : (b : Bool) → nat_lt (most_time kind) time ≡ b
        → ◌≡◌ {A = Result LogItem LogRefusal} (if b then Err TimeTooLarge else judged_step kind time events refusal) (Ok item) → time_of (record_of item) ≤ most
    by true e is = cc
    by false e is = step_time kind most item time events refusal is (grind (arith, nat_tests, e, le))

-- the time of a record that is read is one that an enforcer takes
pub item_time : (entries : List NameEntry) (bytes : List ℕ) (item : LogItem) → IsRecordAnswer entries Input bytes (Ok item) → time_of (record_of item) ≤ 1000000000000000
item_time entries bytes item (Line System time events, spelled, is) = line_time System 1000000000000000 item time
    (events_from_written entries events) (first_event_refusal entries events) is (omega arith)
item_time entries bytes item (Line Inserted time events, spelled, is) = absurd spelled.0.0
item_time entries bytes item (TickLine time, spelled, is) = tick_time 1000000000000000 item time is (omega arith)

-- and with inserted steps one that an auditor takes
pub trace_time : (entries : List NameEntry) (mode : LogMode) (bytes : List ℕ) (item : LogItem) → IsRecordAnswer entries mode bytes (Ok item) → time_of (record_of item) ≤ 2000000000000000
trace_time entries mode bytes item (Line System time events, spelled, is) = line_time System 2000000000000000 item
    time (events_from_written entries events) (first_event_refusal entries events) is (omega arith)
trace_time entries mode bytes item (Line Inserted time events, spelled, is) = line_time Inserted 2000000000000000
    item time (events_from_written entries events) (first_event_refusal entries events) is (omega arith)
trace_time entries mode bytes item (TickLine time, spelled, is) = tick_time 2000000000000000 item time is (omega arith)

-- the events that a record has are put one after another, each where it is not there already
put_distinct : (events : List Event) (event : Event) → HasNoRepeats events → HasNoRepeats (with_event_put events event)
put_distinct events event distinct = by (has_event events event) refl
  where
    by : (b : Bool) → has_event events event ≡ b → HasNoRepeats (if b then events else events ++ event ∷ [])
    by true e = distinct
    by false e = HasNoRepeats-push events event distinct (λ there. true≢false (sym ((has_event-Decides events event).1 there) ∙ e))

pub put_all_distinct : (before events : List Event) → HasNoRepeats before → HasNoRepeats (with_events_put before events)
put_all_distinct before [] distinct = distinct
put_all_distinct before (event ∷ events) distinct = put_all_distinct (with_event_put before event) events (put_distinct before event distinct)

-- no event stands twice in a record that is read
abbrev HasDistinct : LogItem → Type 0
HasDistinct (items.Step kind time events) = HasNoRepeats events
HasDistinct (items.Tick time) = Unit {0}

step_distinct : (kind : StepKind) (time : ℕ) (events : List Event) (refusal : Option LogRefusal) (item : LogItem)
    → HasNoRepeats events → judged_step kind time events refusal ≡ Ok item → HasDistinct item
step_distinct kind time events None item distinct is = subst HasDistinct (ok_is (items.Step kind time events) item is) distinct
step_distinct kind time events (Some refusal) item distinct is = cc

item_distinct : (entries : List NameEntry) (bytes : List ℕ) (item : LogItem) → IsRecordAnswer entries Input bytes (Ok item) → HasDistinct item
item_distinct entries bytes item (Line kind time events, spelled, is) = by (nat_lt (most_time kind) time) is
  where
    by : (b : Bool) → ◌≡◌ {A = Result LogItem LogRefusal}
        (if b then Err TimeTooLarge else judged_step kind time (events_from_written entries events)
        (first_event_refusal entries events)) (Ok item) → HasDistinct item
    by true is = cc
    by false is = step_distinct kind time (events_from_written entries events) (first_event_refusal entries events) item (put_all_distinct [] (map (event_from_written entries) events) tt) is
item_distinct entries bytes item (TickLine time, spelled, is) = by (nat_lt 1000000000000000 time) is
  where
    by : (b : Bool) → ◌≡◌ {A = Result LogItem LogRefusal} (if b then Err TimeTooLarge else Ok (items.Tick time)) (Ok item) → HasDistinct item
    by true is = cc
    by false is = subst HasDistinct (ok_is (items.Tick time) item is) tt

-- nor in those of a log
pub read_distinct : (entries : List NameEntry) (bytes : List ℕ) (read : List LogItem) (rest : List ℕ) → SpellsRecords entries Input bytes read rest → AreDistinct (records_of read)
read_distinct entries bytes [] rest spelled = tt
read_distinct entries bytes (items.Step kind time events ∷ read) rest (between, begins, spelled) =
    (item_distinct entries _ (items.Step kind time events) begins.2, read_distinct entries between read rest spelled)
read_distinct entries bytes (items.Tick time ∷ read) rest (between, begins, spelled) = read_distinct entries between read rest spelled
