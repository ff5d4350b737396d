-- The parts of a record as its reader puts them together.
use Rattle.log_stream.proofs.Vocabulary.{◌≡◌, ℕ, ◌+◌, ◌<◌, ◌≤◌, nat_lt, Bool, true, false, List, [], ◌∷◌, ◌++◌, length, Option, None, Some, Result, Ok, Err, Contains, if◌then◌else◌, refl, sym, ap}
use Rattle.log_stream.proofs.Vocabulary.{subst, ◌∙◌, arith, append_assoc, slice_get, length-append, unwrap_or, IsTrue, ◌↔◌, true≢false, flat_map, Decides, option_and_then, option_or, nat_tests}
use Rattle.log_stream.proofs.Vocabulary.{append-nil, length-map, map-append, flat_map-append, has_event, has_event-Decides, InsertsItem, InsertsEach, Event, NameId, Value, name_number, NameEntry}
use Rattle.log_stream.proofs.Vocabulary.{Sort, StepKind, LogMode, LogRefusal, BadRecord, UnknownName, Arity, SortClash, TooLong, TimeTooLarge, Truncated, NoMemory, argument_clash, entry_of_name}
use Rattle.log_stream.proofs.Vocabulary.{event_from_written, event_refusal, event_refusal_by, first_event_refusal, with_event_put, with_events_put, argument_values, LogMark, LogName, LogArgument}
use Rattle.log_stream.proofs.Vocabulary.{IsLogTokenAt, LogTokensLead, WrittenArgument, WrittenEvent, event_tokens, row_tokens, RecordState, RecordStart, Events, Named, Opened, Valued, Comma}
use Rattle.log_stream.proofs.Vocabulary.{IsBadFrom, FailsReading, GivesRecordAnswer, JudgesEvent, JudgesEvents, PutsEvent, ReadsEvent, ReadsRow, ReadsUpTo, argument_at, clash_at, event_at}
use Rattle.log_stream.proofs.Vocabulary.{record_next, record_run, row_refusal, so_far, MOST_EVENTS}
use Rattle.log_stream.proofs.StateFronts.{row_push, run_events, run_onto, run_values}
use Rattle.log_stream.proofs.ReadParts.{bad_behind, bad_here, clash_push, fails_behind, is_bad, leads-append, stuck_comma, stuck_events, stuck_named, stuck_opened, stuck_valued}

-- a fault at a place
pub fails_bad : (mode : LogMode) (bytes : List ℕ) (from : ℕ) (state : RecordState) (place : ℕ) (refusal : LogRefusal) → refusal ≡ BadRecord place
    → IsBadFrom mode bytes from state place → FailsReading mode bytes from state refusal
fails_bad mode bytes from state place refusal is bad = subst (FailsReading mode bytes from state) (sym is) bad

-- what fails from the start on is the answer
pub fails_gives : (entries : List NameEntry) (mode : LogMode) (bytes : List ℕ) (refusal : LogRefusal) → FailsReading mode bytes 0 RecordStart refusal
    → GivesRecordAnswer entries mode bytes (Err refusal)
fails_gives entries mode bytes (BadRecord place) bad = is_bad mode bytes place bad
fails_gives entries mode bytes NoMemory bad = tt
fails_gives entries mode bytes (UnknownName place) bad = absurd bad
fails_gives entries mode bytes (Arity place) bad = absurd bad
fails_gives entries mode bytes (SortClash place) bad = absurd bad
fails_gives entries mode bytes TooLong bad = absurd bad
fails_gives entries mode bytes TimeTooLarge bad = absurd bad
fails_gives entries mode bytes Truncated bad = absurd bad

-- where the next argument is, after `(` or after a comma
abbrev pub LeadsToArgument : List ℕ → (from : ℕ) → List WrittenArgument → (place : ℕ) → Type 0
LeadsToArgument bytes from [] place = (place ≡ from) × ((end : ℕ) → IsLogTokenAt bytes from end (LogMark 41) → ⊥)
LeadsToArgument bytes from (arg ∷ args) place = LogTokensLead bytes from (row_tokens (arg ∷ args) ++ LogMark 44 ∷ []) place

pub record IsRowSoFar (sorts : List Sort) (bytes : List ℕ) (from : ℕ) (row : List Value) (clashes : Option ℕ) (place : ℕ) : Type 0 where
  pub args : List WrittenArgument
  pub leads : LeadsToArgument bytes from args place
  pub values : row ≡ argument_values args
  pub first : clashes ≡ argument_clash sorts args
  pub onward : from ≤ place
  pub within : place ≤ length bytes

pub row_start : (sorts : List Sort) (bytes : List ℕ) (from : ℕ) → from ≤ length bytes → ((end : ℕ) → IsLogTokenAt bytes from end (LogMark 41) → ⊥)
    → argument_clash sorts [] ≡ None → IsRowSoFar sorts bytes from [] None from
row_start sorts bytes from within none e = record { args = []; leads = (refl, none); values = refl; first = sym e; onward = omega arith; within = within }

-- a value more
valued : (bytes : List ℕ) (from : ℕ) (args : List WrittenArgument) (place record_next : ℕ) (value : Value) → LeadsToArgument bytes from args place
    → LogTokensLead bytes place (LogArgument place value ∷ []) record_next → LogTokensLead bytes from (row_tokens (args ++ argument_at place value ∷ [])) record_next
valued bytes from [] place record_next value leads l = subst (λ n. LogTokensLead bytes n (LogArgument place value ∷ []) record_next) leads.0 l
valued bytes from (arg ∷ args) place record_next value leads l =
    subst (λ ts. LogTokensLead bytes from ts record_next)
    (append_assoc (row_tokens (arg ∷ args)) (LogMark 44 ∷ []) (LogArgument place value ∷ []) ∙ sym (row_push (arg ∷ args) (argument_at place value) (omega arith)))
    (leads-append bytes from place record_next (row_tokens (arg ∷ args) ++ LogMark 44 ∷ []) (LogArgument place value ∷ []) leads l)

values_push : (row : List Value) (args : List WrittenArgument) (place : ℕ) (value : Value) → row ≡ argument_values args → row ++ value ∷ [] ≡ argument_values (args ++ argument_at place value ∷ [])
values_push row args place value e = ap (λ l. l ++ value ∷ []) e ∙ sym (map-append (λ (a : WrittenArgument). a.value) args (argument_at place value ∷ []))

first_push : (sorts : List Sort) (row : List Value) (args : List WrittenArgument) (place : ℕ) (value : Value) (clashes : Option ℕ) → row ≡ argument_values args → clashes
    ≡ argument_clash sorts args → option_or clashes (clash_at (slice_get sorts (length row)) value place) ≡ argument_clash sorts (args ++ argument_at place value ∷ [])
first_push sorts row args place value clashes e f =
    ap (λ c. option_or c (clash_at (slice_get sorts (length row)) value place)) f
    ∙ ap (λ n. option_or (argument_clash sorts args) (clash_at (slice_get sorts n) value place)) (ap length e ∙ length-map args (λ (a : WrittenArgument). a.value))
    ∙ sym (clash_push sorts args place value)

pub row_done : (sorts : List Sort) (bytes : List ℕ) (from : ℕ) (row : List Value) (clashes : Option ℕ) (place record_next to : ℕ) (value : Value)
    → IsRowSoFar sorts bytes from row clashes place → LogTokensLead bytes place (LogArgument place value ∷ []) record_next → LogTokensLead bytes record_next (LogMark 41 ∷ []) to
    → ReadsRow sorts bytes from (row ++ value ∷ []) (option_or clashes (clash_at (slice_get sorts (length row)) value place)) to
row_done sorts bytes from row clashes place record_next to value so l close = record {
  args = so.args ++ argument_at place value ∷ [];
  leads = leads-append bytes from record_next to (row_tokens (so.args ++ argument_at place value ∷ [])) (LogMark 41 ∷ []) (valued bytes from so.args place record_next value so.leads l) close;
  values = values_push row so.args place value so.values;
  first = first_push sorts row so.args place value clashes so.values so.first;
}

comma_behind : (bytes : List ℕ) (from : ℕ) (args : List WrittenArgument) (arg : WrittenArgument) (place : ℕ)
    → LogTokensLead bytes from (row_tokens (args ++ arg ∷ []) ++ LogMark 44 ∷ []) place → LeadsToArgument bytes from (args ++ arg ∷ []) place
comma_behind bytes from [] arg place l = l
comma_behind bytes from (first ∷ args) arg place l = l

pub row_more : (sorts : List Sort) (bytes : List ℕ) (from : ℕ) (row : List Value) (clashes : Option ℕ) (place record_next after : ℕ) (value : Value)
    → IsRowSoFar sorts bytes from row clashes place → LogTokensLead bytes place (LogArgument place value ∷ []) record_next
    → LogTokensLead bytes record_next (LogMark 44 ∷ []) after → place < after → after ≤ length bytes
    → IsRowSoFar sorts bytes from (row ++ value ∷ []) (option_or clashes (clash_at (slice_get sorts (length row)) value place)) after
row_more sorts bytes from row clashes place record_next after value so l comma onward within = record {
  args = so.args ++ argument_at place value ∷ [];
  leads = comma_behind bytes from so.args (argument_at place value) after
      (leads-append bytes from record_next after (row_tokens (so.args ++ argument_at place value ∷ [])) (LogMark 44 ∷ []) (valued bytes from so.args place record_next value so.leads l) comma);
  values = values_push row so.args place value so.values;
  first = first_push sorts row so.args place value clashes so.values so.first;
  onward = omega (arith, so.onward);
  within = within;
}

run_some_row : (mode : LogMode) (kind : StepKind) (time : ℕ) (events : List WrittenEvent) (place : ℕ) (name : List ℕ) (args : List WrittenArgument) (arg : WrittenArgument)
    → record_run mode (Opened kind time events place name) (row_tokens (args ++ arg ∷ [])) ≡ Some (Valued kind time events place name (args ++ arg ∷ []))
run_some_row mode kind time events place name [] arg = refl
run_some_row mode kind time events place name (first ∷ args) arg = run_values mode kind time events place name (first ∷ []) (args ++ arg ∷ [])

run_comma : (mode : LogMode) (kind : StepKind) (time : ℕ) (events : List WrittenEvent) (place : ℕ) (name : List ℕ) (first : WrittenArgument) (args : List WrittenArgument)
    → record_run mode (Opened kind time events place name) (row_tokens (first ∷ args) ++ LogMark 44 ∷ []) ≡ Some (Comma kind time events place name (first ∷ args))
run_comma mode kind time events place name first args =
    run_onto mode (Opened kind time events place name) (Valued kind time events place name (first ∷ args)) (row_tokens (first ∷ args)) (LogMark 44 ∷ [])
    (run_values mode kind time events place name (first ∷ []) args)

pub row_without_value : (mode : LogMode) (sorts : List Sort) (bytes : List ℕ) (from : ℕ) (row : List Value) (clashes : Option ℕ) (at : ℕ) (kind : StepKind) (time : ℕ)
    (events : List WrittenEvent) (place : ℕ) (name : List ℕ) → IsRowSoFar sorts bytes from row clashes at
    → ((p end : ℕ) (value : Value) → IsLogTokenAt bytes at end (LogArgument p value) → ⊥) → IsBadFrom mode bytes from (Opened kind time events place name) at
row_without_value mode sorts bytes from row clashes at kind time events place name so no_value = by so.args so.leads
  where
    by : (args : List WrittenArgument) → LeadsToArgument bytes from args at → IsBadFrom mode bytes from (Opened kind time events place name) at
    by [] (here, none) =
        subst (λ n. IsBadFrom mode bytes n (Opened kind time events place name) at) here
        (bad_here mode bytes at (Opened kind time events place name) (stuck_opened mode bytes at kind time events place name
        (subst (λ n. (end : ℕ) → IsLogTokenAt bytes n end (LogMark 41) → ⊥) (sym here) none) no_value))
    by (first ∷ args) leads =
        bad_behind mode bytes from at (Opened kind time events place name) (Comma kind time events place name (first ∷ args)) (row_tokens (first ∷ args) ++ LogMark 44 ∷ []) at leads
        (run_comma mode kind time events place name first args)
        (bad_here mode bytes at (Comma kind time events place name (first ∷ args)) (stuck_comma mode bytes at kind time events place name (first ∷ args) no_value))

pub row_without_mark : (mode : LogMode) (sorts : List Sort) (bytes : List ℕ) (from : ℕ) (row : List Value) (clashes : Option ℕ) (at record_next : ℕ) (value : Value)
    (kind : StepKind) (time : ℕ) (events : List WrittenEvent) (place : ℕ) (name : List ℕ) → IsRowSoFar sorts bytes from row clashes at
    → LogTokensLead bytes at (LogArgument at value ∷ []) record_next → ((end : ℕ) → IsLogTokenAt bytes record_next end (LogMark 41) → ⊥)
    → ((end : ℕ) → IsLogTokenAt bytes record_next end (LogMark 44) → ⊥) → IsBadFrom mode bytes from (Opened kind time events place name) record_next
row_without_mark mode sorts bytes from row clashes at record_next value kind time events place name so l no_close no_comma =
    let args = so.args ++ argument_at at value ∷ [] in
    bad_behind mode bytes from record_next (Opened kind time events place name) (Valued kind time events place name args) (row_tokens args) record_next
    (valued bytes from so.args at record_next value so.leads l) (run_some_row mode kind time events place name so.args (argument_at at value))
    (bad_here mode bytes record_next (Valued kind time events place name args) (stuck_valued mode bytes record_next kind time events place name args no_close no_comma))

-- an event's name, where there is room for one
pub run_name : (mode : LogMode) (kind : StepKind) (time : ℕ) (events : List WrittenEvent) (place : ℕ) (name : List ℕ) → length events < MOST_EVENTS
    → record_run mode (Events kind time events) (LogName place name ∷ []) ≡ Some (Named kind time events place name)
run_name mode kind time events place name few =
    let t : nat_lt (length events) MOST_EVENTS ≡ true = grind (arith, nat_tests) in
    ap (λ b. option_and_then (λ after. record_run mode after []) (if b then Some (Named kind time events place name) else None)) t

pub event_without_name : (mode : LogMode) (bytes : List ℕ) (from : ℕ) (kind : StepKind) (time : ℕ) (events : List WrittenEvent)
    → ((end : ℕ) → IsLogTokenAt bytes from end (LogMark 59) → ⊥) → ((p end : ℕ) (name : List ℕ) → IsLogTokenAt bytes from end (LogName p name) → ⊥)
    → IsBadFrom mode bytes from (Events kind time events) from
event_without_name mode bytes from kind time events none no_name =
    bad_here mode bytes from (Events kind time events) (stuck_events mode bytes from kind time events none (λ p end name stands. absurd (no_name p end name stands)))

pub event_without_open : (mode : LogMode) (bytes : List ℕ) (from record_next : ℕ) (name : List ℕ) (kind : StepKind) (time : ℕ) (events : List WrittenEvent)
    → length events < MOST_EVENTS → LogTokensLead bytes from (LogName from name ∷ []) record_next → ((end : ℕ) → IsLogTokenAt bytes record_next end (LogMark 40) → ⊥)
    → IsBadFrom mode bytes from (Events kind time events) record_next
event_without_open mode bytes from record_next name kind time events few l none =
    bad_behind mode bytes from record_next (Events kind time events) (Named kind time events from name) (LogName from name ∷ []) record_next l (run_name mode kind time events from name few)
    (bad_here mode bytes record_next (Named kind time events from name) (stuck_named mode bytes record_next kind time events from name none))

pub event_with_bad_row : (mode : LogMode) (bytes : List ℕ) (from record_next inside : ℕ) (name : List ℕ) (kind : StepKind) (time : ℕ) (events : List WrittenEvent)
    (refusal : LogRefusal) → length events < MOST_EVENTS → LogTokensLead bytes from (LogName from name ∷ []) record_next → LogTokensLead bytes record_next (LogMark 40 ∷ []) inside
    → FailsReading mode bytes inside (Opened kind time events from name) refusal → FailsReading mode bytes from (Events kind time events) refusal
event_with_bad_row mode bytes from record_next inside name kind time events refusal few l paren fails =
    fails_behind mode bytes from inside (Events kind time events) (Opened kind time events from name) (LogName from name ∷ LogMark 40 ∷ []) refusal
    (leads-append bytes from record_next inside (LogName from name ∷ []) (LogMark 40 ∷ []) l paren)
    (run_onto mode (Events kind time events) (Named kind time events from name) (LogName from name ∷ []) (LogMark 40 ∷ []) (run_name mode kind time events from name few)) fails

-- an event, unless it is refused
abbrev pub event_unless : Option LogRefusal → Event → Result Event LogRefusal
event_unless None event = Ok event
event_unless (Some refusal) event = Err refusal

-- the event that is judged is the one that is written
judges : (entries : List NameEntry) (written : WrittenEvent) (number : ℕ) (entry : NameEntry) (row : List Value) (clashes : Option ℕ) →
    Some entry ≡ entry_of_name entries written.name → name_number entries written.name ≡ Some number → row ≡ argument_values written.args → clashes ≡ argument_clash entry.sorts written.args →
    JudgesEvent entries written (event_unless (row_refusal entry.sorts (length row) clashes written.place) (record { name = record { 0 = number }; args = row }))
judges entries written number entry row clashes is numbered values first = by (row_refusal entry.sorts (length row) clashes written.place) refusal_is
  where
    lengths : length row ≡ length written.args
    lengths = ap length values ∙ length-map written.args (λ (a : WrittenArgument). a.value)

    refusal_is : event_refusal entries written ≡ row_refusal entry.sorts (length row) clashes written.place
    refusal_is =
        ap (λ e. event_refusal_by e written) (sym is)
        ∙ ap (λ n. row_refusal entry.sorts n (argument_clash entry.sorts written.args) written.place) (sym lengths)
        ∙ ap (λ c. row_refusal entry.sorts (length row) c written.place) (sym first)

    event_is : record { name = record { 0 = number }; args = row } ≡ event_from_written entries written
    event_is = λ j. record { name = record { 0 = unwrap_or (sym numbered j) 0 }; args = values j }

    by : (refusal : Option LogRefusal) → event_refusal entries written ≡ refusal → JudgesEvent entries written (event_unless refusal (record { name = record { 0 = number }; args = row }))
    by None e = (e, event_is)
    by (Some refusal) e = e

-- the tokens of an event
event_leads : (bytes : List ℕ) (from record_next inside to : ℕ) (name : List ℕ) (args : List WrittenArgument) → LogTokensLead bytes from (LogName from name ∷ []) record_next
    → LogTokensLead bytes record_next (LogMark 40 ∷ []) inside → LogTokensLead bytes inside (row_tokens args ++ LogMark 41 ∷ []) to
    → LogTokensLead bytes from (event_tokens (event_at from name args)) to
event_leads bytes from record_next inside to name args l paren row =
    leads-append bytes from record_next to (LogName from name ∷ []) (LogMark 40 ∷ row_tokens args ++ LogMark 41 ∷ []) l
    (leads-append bytes record_next inside to (LogMark 40 ∷ []) (row_tokens args ++ LogMark 41 ∷ []) paren row)

event_read : (entries : List NameEntry) (bytes : List ℕ) (from record_next inside to : ℕ) (name : List ℕ) (number : ℕ) (entry : NameEntry) (row : List Value) (clashes : Option ℕ) →
    LogTokensLead bytes from (LogName from name ∷ []) record_next → LogTokensLead bytes record_next (LogMark 40 ∷ []) inside → ReadsRow entry.sorts bytes inside row clashes to →
    Some entry ≡ entry_of_name entries name → name_number entries name ≡ Some number →
    ReadsEvent entries bytes from (event_unless (row_refusal entry.sorts (length row) clashes from) (record { name = record { 0 = number }; args = row })) to
event_read entries bytes from record_next inside to name number entry row clashes l paren reads is numbered =
    let written = event_at from name reads.args in (
      written,
      event_leads bytes from record_next inside to name reads.args l paren reads.leads,
      judges entries written number entry row clashes is numbered reads.values reads.first,
    )

-- an event whose name has no entry
unknown_read : (entries : List NameEntry) (bytes : List ℕ) (from record_next inside to : ℕ) (name : List ℕ) (sorts : List Sort) (row : List Value) (clashes : Option ℕ) →
    LogTokensLead bytes from (LogName from name ∷ []) record_next → LogTokensLead bytes record_next (LogMark 40 ∷ []) inside → ReadsRow sorts bytes inside row clashes to →
    None ≡ entry_of_name entries name → ReadsEvent entries bytes from (Err (UnknownName from)) to
unknown_read entries bytes from record_next inside to name sorts row clashes l paren reads none =
    let written = event_at from name reads.args in (
      written,
      event_leads bytes from record_next inside to name reads.args l paren reads.leads,
      ap (λ e. event_refusal_by e written) (sym none),
    )

-- what an insertion leaves
inserts_put : (events : List Event) (event : Event) (fresh : Bool) (after : List Event) → InsertsItem event events fresh after → after ≡ with_event_put events event
inserts_put events event fresh after i = by fresh refl (has_event events event) refl
  where
    d : Decides (has_event events event) (Contains events event)
    d = has_event-Decides events event

    clash_of : has_event events event ≡ true → has_event events event ≡ false → ⊥
    clash_of p q = cc

    by : (f : Bool) → fresh ≡ f → (b : Bool) → has_event events event ≡ b → after ≡ (if b then events else events ++ event ∷ [])
    by true e true h = absurd ((i.absent e).0 (d.0 h))
    by true e false h = (i.absent e).1
    by false e true h = (i.present e).1
    by false e false h = absurd (clash_of (d.1 (i.present e).0) h)

-- and what insertions one after another leave
pub firsts_put : (before events after : List Event) → InsertsEach before events after → after ≡ with_events_put before events
firsts_put before [] after is = is
firsts_put before (event ∷ events) after (fresh, between, first, rest) =
    firsts_put between events after rest ∙ ap (λ l. with_events_put l events) (inserts_put before event fresh between first)

-- events so far, each judged
pub record AreEventsSoFar (entries : List NameEntry) (bytes : List ℕ) (from : ℕ) (events : Result (List Event) LogRefusal) (count place : ℕ) : Type 0 where
  pub written : List WrittenEvent
  pub counted : length written ≡ count
  pub leads : LogTokensLead bytes from (flat_map event_tokens written) place
  pub judged : JudgesEvents entries written events
  pub within : place ≤ length bytes

-- a refusal stays where no other comes
pub still_refused : (refused : Option LogRefusal) → refused ≡ option_or refused None
still_refused None = refl
still_refused (Some refusal) = refl

first_refusal-push : (entries : List NameEntry) (events : List WrittenEvent) (event : WrittenEvent) → first_event_refusal entries (events ++ event ∷ [])
    ≡ option_or (first_event_refusal entries events) (event_refusal entries event)
first_refusal-push entries [] event = sym (still_refused (event_refusal entries event))
first_refusal-push entries (x ∷ events) event = by (event_refusal entries x) (first_refusal-push entries events event)
  where
    by : (o : Option LogRefusal) → first_event_refusal entries (events ++ event ∷ []) ≡ option_or (first_event_refusal entries events) (event_refusal entries event)
        → option_or o (first_event_refusal entries (events ++ event ∷ [])) ≡ option_or (option_or o (first_event_refusal entries events)) (event_refusal entries event)
    by None h = h
    by (Some r) h = refl

judged_more : (entries : List NameEntry) (written : List WrittenEvent) (one : WrittenEvent) (events : Result (List Event) LogRefusal) (event : Result Event LogRefusal)
    (after : Result (List Event) LogRefusal) → JudgesEvents entries written events → JudgesEvent entries one event → PutsEvent events event after
    → JudgesEvents entries (written ++ one ∷ []) after
judged_more entries written one (Ok events) (Ok event) after all here puts =
    subst (JudgesEvents entries (written ++ one ∷ [])) (sym puts)
    (first_refusal-push entries written one ∙ (λ j. option_or (all.0 j) (here.0 j)), (λ j. all.1 j ++ here.1 j ∷ []) ∙ sym (map-append (event_from_written entries) written (one ∷ [])))
judged_more entries written one (Ok events) (Err refusal) after all here puts =
    subst (JudgesEvents entries (written ++ one ∷ [])) (sym puts) (first_refusal-push entries written one ∙ (λ j. option_or (all.0 j) (here j)))
judged_more entries written one (Err refusal) event after all here puts =
    subst (JudgesEvents entries (written ++ one ∷ [])) (sym puts) (first_refusal-push entries written one ∙ ap (λ o. option_or o (event_refusal entries one)) all)

pub events_start : (entries : List NameEntry) (bytes : List ℕ) (from : ℕ) → from ≤ length bytes → AreEventsSoFar entries bytes from (Ok []) 0 from
events_start entries bytes from within = record { written = []; counted = refl; leads = refl; judged = (refl, refl); within = within }

pub events_more : (entries : List NameEntry) (bytes : List ℕ) (from : ℕ) (events : Result (List Event) LogRefusal) (count place record_next : ℕ) (event : Result Event LogRefusal)
    (after : Result (List Event) LogRefusal) → AreEventsSoFar entries bytes from events count place → ReadsEvent entries bytes place event record_next → record_next ≤ length bytes
    → PutsEvent events event after → AreEventsSoFar entries bytes from after (count + 1) record_next
events_more entries bytes from events count place record_next event after so (one, leads, judged) within puts = record {
  written = so.written ++ one ∷ [];
  counted = omega (arith, length-append so.written (one ∷ []), so.counted);
  leads = subst (λ ts. LogTokensLead bytes from ts record_next) (ap (λ l. flat_map event_tokens so.written ++ l) (sym (append-nil (event_tokens one))) ∙ sym
      (flat_map-append event_tokens so.written (one ∷ []))) (leads-append bytes from place record_next (flat_map event_tokens so.written) (event_tokens one) so.leads leads);
  judged = judged_more entries so.written one events event after so.judged judged puts;
  within = within;
}

pub events_done : (entries : List NameEntry) (bytes : List ℕ) (from : ℕ) (events : Result (List Event) LogRefusal) (count place : ℕ)
    → AreEventsSoFar entries bytes from events count place → count ≤ MOST_EVENTS → IsLogTokenAt bytes place (place + 1) (LogMark 59) → ReadsUpTo entries bytes from events place
events_done entries bytes from events count place so few ends = record {
  written = so.written;
  few = omega (arith, so.counted);
  leads = so.leads;
  ends = ends;
  judged = so.judged;
}

run_all : (mode : LogMode) (kind : StepKind) (time : ℕ) (events : List WrittenEvent) → length events ≤ MOST_EVENTS
    → record_run mode (Events kind time []) (flat_map event_tokens events) ≡ Some (Events kind time events)
run_all mode kind time events few = run_events mode kind time [] events (omega arith)

-- a fault of the next event
pub events_with_bad_event : (entries : List NameEntry) (mode : LogMode) (bytes : List ℕ) (from : ℕ) (events : Result (List Event) LogRefusal) (count place : ℕ) (kind : StepKind)
    (time : ℕ) (refusal : LogRefusal) → AreEventsSoFar entries bytes from events count place → count < MOST_EVENTS
    → ((others : List WrittenEvent) → length others < MOST_EVENTS → FailsReading mode bytes place (Events kind time others) refusal)
    → FailsReading mode bytes from (Events kind time []) refusal
events_with_bad_event entries mode bytes from events count place kind time refusal so few fails =
    fails_behind mode bytes from place (Events kind time []) (Events kind time so.written) (flat_map event_tokens so.written) refusal so.leads
    (run_all mode kind time so.written (omega (arith, so.counted))) (fails so.written (omega (arith, so.counted)))

-- as many events as there may be, and no semicolon
pub events_too_many : (entries : List NameEntry) (mode : LogMode) (bytes : List ℕ) (from : ℕ) (events : Result (List Event) LogRefusal) (place : ℕ) (kind : StepKind) (time : ℕ)
    → AreEventsSoFar entries bytes from events MOST_EVENTS place → ((end : ℕ) → IsLogTokenAt bytes place end (LogMark 59) → ⊥)
    → IsBadFrom mode bytes from (Events kind time []) place
events_too_many entries mode bytes from events place kind time so none =
    bad_behind mode bytes from place (Events kind time []) (Events kind time so.written) (flat_map event_tokens so.written) place so.leads
    (run_all mode kind time so.written (omega (arith, so.counted)))
    (bad_here mode bytes place (Events kind time so.written) (stuck_events mode bytes place kind time so.written none (λ p end name stands. no_room p name)))
  where
    no_room : (p : ℕ) (name : List ℕ) → record_next mode (Events kind time so.written) (LogName p name) ≡ None
    no_room p name =
        let many = so.counted in
        let t : nat_lt (length so.written) MOST_EVENTS ≡ false = grind (arith, nat_tests) in
        ap (λ b. if b then Some (Named kind time so.written p name) else None) t

-- an event or its refusal is put after those before it
puts_event : (events after : List Event) (event : Event) (refusal refused later : Option LogRefusal) → after ≡ events ++ event ∷ [] → later ≡ option_or refused refusal
    → PutsEvent (so_far events refused) (event_unless refusal event) (so_far after later)
puts_event events after event None None later is first = ap (so_far after) first ∙ ap Ok is
puts_event events after event (Some refusal) None later is first = ap (so_far after) first
puts_event events after event refusal (Some earlier) later is first = ap (so_far after) first

-- after a refusal nothing counts
puts_refusal : (events after : List Event) (refusal : LogRefusal) (second refused later : Option LogRefusal) → later ≡ option_or (option_or refused (Some refusal)) second
    → PutsEvent (so_far events refused) (Err refusal) (so_far after later)
puts_refusal events after refusal second None later first = ap (so_far after) first
puts_refusal events after refusal second (Some earlier) later first = ap (so_far after) first

-- what an event that stands last makes of those before it and their first refusal
abbrev pub IsPlaced : List NameEntry → List ℕ → (from to : ℕ) → (events : List Event) → (refused : Option LogRefusal) → (after : List Event) → (later : Option LogRefusal) → Type 0
IsPlaced entries bytes from to events refused after later =
    (event : Result Event LogRefusal) × ReadsEvent entries bytes from event to × PutsEvent (so_far events refused) event (so_far after later)

module _ (entries : List NameEntry) (bytes : List ℕ) (from record_next inside to : ℕ) (name : List ℕ) (sorts : List Sort) (row : List Value) (clashes : Option ℕ)
    (l : LogTokensLead bytes from (LogName from name ∷ []) record_next) (paren : LogTokensLead bytes record_next (LogMark 40 ∷ []) inside) (reads : ReadsRow sorts bytes inside row clashes to)
    (events after : List Event) (refused noted refusal later : Option LogRefusal) (first : later ≡ option_or noted refusal) where
  pub event_placed : (number : NameId) (entry : NameEntry) → Some entry ≡ entry_of_name entries name → name_number entries name ≡ Some number.0 → sorts ≡ entry.sorts →
      after ≡ events ++ record { name = number; args = row } ∷ [] → noted ≡ refused → (count : ℕ) → count ≡ length row → refusal ≡ row_refusal sorts count clashes from
      → IsPlaced entries bytes from to events refused after later
  event_placed number entry is numbered same last none count counted why =
      let event : Event = record { name = number; args = row } in
      let refused_by : refusal ≡ row_refusal entry.sorts (length row) clashes from = why ∙ (λ j. row_refusal (same j) (counted j) clashes from) in (
        event_unless refusal event,
        subst (λ r. ReadsEvent entries bytes from (event_unless r event) to) (sym refused_by)
            (event_read entries bytes from record_next inside to name number.0 entry row clashes l paren (subst (λ s. ReadsRow s bytes inside row clashes to) same reads) is numbered),
        puts_event events after event refusal refused later last (first ∙ ap (λ r. option_or r refusal) none),
      )

  pub unknown_placed : None ≡ entry_of_name entries name → noted ≡ option_or refused (Some (UnknownName from)) → IsPlaced entries bytes from to events refused after later
  unknown_placed none unknown = (
    Err (UnknownName from),
    unknown_read entries bytes from record_next inside to name sorts row clashes l paren reads none,
    puts_refusal events after (UnknownName from) refusal refused later (first ∙ ap (λ r. option_or r refusal) unknown),
  )

-- no semicolon stands where none was found
pub none_ends : (found : Bool) (bytes : List ℕ) (at : ℕ) → IsTrue found ↔ IsLogTokenAt bytes at (at + 1) (LogMark 59) → found ≡ false → (end : ℕ) → IsLogTokenAt bytes at end (LogMark 59) → ⊥
none_ends found bytes at test is end (below, byte, ends) = true≢false (sym (test.1 (below, byte, refl)) ∙ is)
