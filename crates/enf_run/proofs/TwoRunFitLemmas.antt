-- What is read of a log fits the signature: each event is of a name of it, with a value of its sort in each column.
use Rattle.enf_run.proofs.Vocabulary.{◌≡◌, ℕ, zero, suc, ◌==◌, nat_lt, Bool, true, false, List, [], ◌∷◌, ◌++◌, length, map, Option, None, Some, Contains, Result, Ok, Err, if◌then◌else◌, refl, sym}
use Rattle.enf_run.proofs.Vocabulary.{subst, arith, slice_get, unwrap_or, AllByRecursion, option_and_then, option_map, option_or, nat_tests, get_or_past, none-some, no_step, has_event}
use Rattle.enf_run.proofs.Vocabulary.{AllByRecursion-append, AllByRecursion-contains, none_in_nil, Event, Step, TraceFits, IsRecordAnswer, argument_clash, entry_of_name, event_from_written}
use Rattle.enf_run.proofs.Vocabulary.{event_refusal, event_refusal_by, events_from_written, first_event_refusal, judged_step, with_event_put, with_events_put, argument_values, SpellsRecords, Line}
use Rattle.enf_run.proofs.Vocabulary.{TickLine, WrittenArgument, WrittenEvent, LogItem, Input, LogRefusal, Arity, SortClash, TimeTooLarge, UnknownName, ok_is, has_sort-sort, FillColumns}
use Rattle.enf_run.proofs.Vocabulary.{FitsSignature, has_sort, name_number, NameEntry, Sort, most_time, recorded, StepKind, records_of}
use Rattle.log_stream.specs.declared.items.LogItem.TheVariants as items

-- ---- a record

fill_columns : (sorts : List Sort) (args : List WrittenArgument) → length args ≡ length sorts → argument_clash sorts args ≡ None → FillColumns (argument_values args) sorts
fill_columns [] [] many none = tt
fill_columns [] (arg ∷ args) many none = absurd (omega (arith, many))
fill_columns (sort ∷ sorts) [] many none = absurd (omega (arith, many))
fill_columns (sort ∷ sorts) (arg ∷ args) many none = by (has_sort sort arg.value) refl none (fill_columns sorts args (omega (arith, many)))
  where
    by : (b : Bool) → has_sort sort arg.value ≡ b → (if b then argument_clash sorts args else Some arg.place)
        ≡ None → (argument_clash sorts args ≡ None → FillColumns (argument_values args) sorts)
        → FillColumns (argument_values (arg ∷ args)) (sort ∷ sorts)
    by true is rest behind = (has_sort-sort sort arg.value is, behind rest)
    by false is never behind = absurd (none-some arg.place (sym never))

numbered : (entries : List NameEntry) (number : Option ℕ) (entry : NameEntry) → option_and_then (slice_get entries) number ≡ Some entry → slice_get entries (unwrap_or number 0) ≡ Some entry
numbered entries None entry is = absurd (none-some entry is)
numbered entries (Some number) entry is = is

unmapped : (f : ℕ → LogRefusal) (place : Option ℕ) → option_map f place ≡ None → place ≡ None
unmapped f None is = refl
unmapped f (Some place) is = absurd (none-some (f place) (sym is))

event_fits : (entries : List NameEntry) (event : WrittenEvent) → event_refusal entries event ≡ None → FitsSignature entries (event_from_written entries event)
event_fits entries event = by (entry_of_name entries event.name) refl
  where
    in_columns : (entry : NameEntry) (b : Bool) → (length event.args == length entry.sorts) ≡ b
        → (if b then option_map SortClash (argument_clash entry.sorts event.args) else Some (Arity event.place)) ≡ None → FillColumns (argument_values event.args) entry.sorts
    in_columns entry true many none = fill_columns entry.sorts event.args (grind (arith, nat_tests, many)) (unmapped SortClash (argument_clash entry.sorts event.args) none)
    in_columns entry false many never = absurd (none-some (Arity event.place) (sym never))

    by : (found : Option NameEntry) → entry_of_name entries event.name ≡ found → event_refusal_by found event ≡ None → FitsSignature entries (event_from_written entries event)
    by None is never = absurd (none-some (UnknownName event.place) (sym never))
    by (Some entry) is none = (entry, numbered entries (name_number entries event.name) entry is, in_columns entry (length event.args == length entry.sorts) refl none)

neither : (a b : Option LogRefusal) → option_or a b ≡ None → (a ≡ None) × (b ≡ None)
neither None b none = (refl, none)
neither (Some why) b never = absurd (none-some why (sym never))

all_fit : (entries : List NameEntry) (events : List WrittenEvent) → first_event_refusal entries events ≡ None → AllByRecursion (FitsSignature entries) (map (event_from_written entries) events)
all_fit entries [] none = tt
all_fit entries (event ∷ events) none =
    let both = neither (event_refusal entries event) (first_event_refusal entries events) none in
    (event_fits entries event both.0, all_fit entries events both.1)

-- so do those of them that stay where repeats are left out
put_fits : (entries : List NameEntry) (events : List Event) (event : Event)
    → AllByRecursion (FitsSignature entries) events → FitsSignature entries event
    → AllByRecursion (FitsSignature entries) (with_event_put events event)
put_fits entries events event all fits = by (has_event events event)
  where
    by : (b : Bool) → AllByRecursion (FitsSignature entries) (if b then events else events ++ event ∷ [])
    by true = all
    by false = AllByRecursion-append (FitsSignature entries) events (event ∷ []) all (fits, tt)

put_all_fit : (entries : List NameEntry) (before events : List Event)
    → AllByRecursion (FitsSignature entries) before → AllByRecursion (FitsSignature entries) events
    → AllByRecursion (FitsSignature entries) (with_events_put before events)
put_all_fit entries before [] all more = all
put_all_fit entries before (event ∷ events) all more = put_all_fit entries (with_event_put before event) events (put_fits entries before event all more.0) more.1

-- the events of a record that is read
abbrev ItemFits : List NameEntry → LogItem → Type 0
ItemFits entries (items.Step kind time events) = AllByRecursion (FitsSignature entries) events
ItemFits entries (items.Tick time) = Unit {0}

step_fits : (entries : List NameEntry) (kind : StepKind) (time : ℕ) (events : List WrittenEvent) (item : LogItem) (refusal : Option LogRefusal) → first_event_refusal entries events ≡ refusal
    → judged_step kind time (events_from_written entries events) refusal ≡ Ok item → ItemFits entries item
step_fits entries kind time events item None none is =
    subst (ItemFits entries) (ok_is (items.Step kind time (events_from_written entries events)) item is)
    (put_all_fit entries [] (map (event_from_written entries) events) tt (all_fit entries events none))
step_fits entries kind time events item (Some refusal) none is = cc

item_fits : (entries : List NameEntry) (bytes : List ℕ) (item : LogItem) → IsRecordAnswer entries Input bytes (Ok item) → ItemFits entries item
item_fits entries bytes item (Line kind time events, spelled, is) = by (nat_lt (most_time kind) time) is
  where
    by : (b : Bool) → ◌≡◌ {A = Result LogItem LogRefusal}
        (if b then Err TimeTooLarge else judged_step kind time (events_from_written entries events)
        (first_event_refusal entries events)) (Ok item) → ItemFits entries item
    by true is = cc
    by false is = step_fits entries kind time events item (first_event_refusal entries events) refl is
item_fits entries bytes item (TickLine time, spelled, is) = by (nat_lt 1000000000000000 time) is
  where
    by : (b : Bool) → ◌≡◌ {A = Result LogItem LogRefusal} (if b then Err TimeTooLarge else Ok (items.Tick time)) (Ok item) → ItemFits entries item
    by true is = cc
    by false is = subst (ItemFits entries) (ok_is (items.Tick time) item is) tt

-- ---- a log

abbrev StepFits : List NameEntry → Step → Type 0
StepFits entries step = AllByRecursion (FitsSignature entries) step.events

steps_fit : (entries : List NameEntry) (text : List ℕ) (read : List LogItem) (rest : List ℕ)
    → SpellsRecords entries Input text read rest → AllByRecursion (StepFits entries) (recorded (records_of read))
steps_fit entries text [] rest spelled = tt
steps_fit entries text (items.Step kind time events ∷ read) rest (between, begins, spelled) =
    (item_fits entries _ (items.Step kind time events) begins.2, steps_fit entries between read rest spelled)
steps_fit entries text (items.Tick time ∷ read) rest (between, begins, spelled) = steps_fit entries between read rest spelled

pub trace_fits : (entries : List NameEntry) (trace : List Step) → AllByRecursion (StepFits entries) trace → TraceFits entries trace
trace_fits entries [] all i event there = absurd (none_in_nil event (subst (λ (step : Step). Contains step.events event) (get_or_past [] i no_step (omega arith)) there))
trace_fits entries (step ∷ trace) all zero event there = AllByRecursion-contains (FitsSignature entries) step.events event all.0 there
trace_fits entries (step ∷ trace) all (suc i) event there = trace_fits entries trace all.1 i event there

pub read_fits : (entries : List NameEntry) (text : List ℕ) (read : List LogItem) (rest : List ℕ) → SpellsRecords entries Input text read rest → TraceFits entries (recorded (records_of read))
read_fits entries text read rest spelled = trace_fits entries (recorded (records_of read)) (steps_fit entries text read rest spelled)
