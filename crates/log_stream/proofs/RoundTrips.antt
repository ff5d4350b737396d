-- A step's line is read again as the step.
use Rattle.log_stream.proofs.Vocabulary.{◌≡◌, ◌≢◌, ℕ, pos, ◌+◌, ◌^◌, ◌<◌, ◌≤◌, ◌&&◌, not, Bool, true, false, List, [], ◌∷◌, ◌++◌, length, map, take, drop, slice_index, slice_get, None, Some, Ok, Err}
use Rattle.log_stream.proofs.Vocabulary.{IsTrue, Contains, if◌then◌else◌, refl, sym, ap, subst, ◌∙◌, arith, append_assoc, length-append, unwrap_or, decimal, Decides, digit_value, AllByRecursion}
use Rattle.log_stream.proofs.Vocabulary.{option_and_then, option_map, option_or, AllDigits, nat_tests, decimal_is_IsNumeral, append-nil, take_all, take_at, drop_at, get_or_from_slice_get}
use Rattle.log_stream.proofs.Vocabulary.{slice_get-map, slice_get_within, has_event, has_event-Decides, HasNoRepeats, HasNoRepeats-middle, is_reserved, is_word, spelled, EndsBefore, is_blank}
use Rattle.log_stream.proofs.Vocabulary.{PrintedIsToken, Event, Value, Num, true_from_eq, IsNameEntry, IsSignature, name_number, entry_names as names_of, number_only, NameEntry, Sort, StepKind}
use Rattle.log_stream.proofs.Vocabulary.{System, Inserted, Step, Arity, SortClash, TimeTooLarge, Outside, IsRecordAnswer, argument_clash, entry_of_name, event_from_written, event_refusal}
use Rattle.log_stream.proofs.Vocabulary.{event_refusal_by, events_from_written, first_event_refusal, judged_record, judged_step, with_events_put, argument_values, spelled_event, spelled_row}
use Rattle.log_stream.proofs.Vocabulary.{spelled_step, step_line, behind_blanks, length_to_end, record_bytes, record_length, IsLogGap, LogTokensLead, Line, IsRecordSpelled, mark_of, record_tokens}
use Rattle.log_stream.proofs.Vocabulary.{most_time, FitColumns, IsDeclared, IsWithinLimits, StepLineIsRead, MOST_EVENTS, MOST_RECORD_BYTES}
use Rattle.log_stream.proofs.LogLaws.{end_stays}
use Rattle.log_stream.proofs.PlainBytes.{Stays, decimal_plain, plain_stays, spelled_stays, stays_append, word_plain}
use Rattle.log_stream.proofs.PrintedTokens.{AreValues, ArePrintable, at_place, behind_front, commas, events_lead, gap_none, mark_stands, name_of, space_before, spaced, value_stands, written_args}
use Rattle.log_stream.proofs.PrintedTokens.{written_event, written_events}
use Rattle.log_stream.proofs.WholeItems.{in_time}
use Rattle.log_stream.proofs.RestFronts.{begun_stays, end_onward}

-- what a declared event has
pub name_is : (entries : List NameEntry) (event : Event) → (d : IsDeclared entries event) → name_of (names_of entries) event ≡ d.entry.text
name_is entries event d =
    get_or_from_slice_get (names_of entries) event.name.0 d.entry.text [] (slice_get-map (λ (entry : NameEntry). entry.text) entries event.name.0 ∙ ap
    (option_map (λ (entry : NameEntry). entry.text)) d.found)

number_is : (entries : List NameEntry) (event : Event) → IsSignature entries → (d : IsDeclared entries event) → name_number entries (name_of (names_of entries) event) ≡ Some event.name.0
number_is entries event signature d =
    ap (name_number entries) (name_is entries event d) ∙ number_only entries d.entry.text event.name.0 signature.distinct (ap (option_map (λ (entry : NameEntry). entry.text)) d.found)

word_is : (entries : List NameEntry) (event : Event) → IsSignature entries → (d : IsDeclared entries event) → IsTrue (is_word (name_of (names_of entries) event))
word_is entries event signature d =
    let same = get_or_from_slice_get entries event.name.0 d.entry d.entry d.found in
    let entry = subst IsNameEntry same (signature.each event.name.0 d.entry (slice_get_within entries event.name.0 d.entry d.found)) in
    ap is_word (name_is entries event d) ∙ first (is_word d.entry.text) (not (is_reserved d.entry.text)) entry.named
  where
    first : (a b : Bool) → (a && b) ≡ true → a ≡ true
    first true b e = refl
    first false b e = cc

are_values : (sorts : List Sort) (values : List Value) → FitColumns sorts values → AreValues values
are_values sorts [] fit = tt
are_values [] (value ∷ values) fit = absurd fit
are_values (sort ∷ sorts) (value ∷ values) fit = (fit.1, are_values sorts values fit.2)

as_many : (place : ℕ) (sorts : List Sort) (values : List Value) → FitColumns sorts values → length (written_args place values) ≡ length sorts
as_many place [] [] fit = refl
as_many place (sort ∷ sorts) (value ∷ values) fit = let later = as_many (place + length (spelled value) + 1) sorts values fit.2 in omega (arith, later)
as_many place [] (value ∷ values) fit = absurd fit
as_many place (sort ∷ sorts) [] fit = absurd fit

no_clash : (place : ℕ) (sorts : List Sort) (values : List Value) → FitColumns sorts values → argument_clash sorts (written_args place values) ≡ None
no_clash place [] [] fit = refl
no_clash place (sort ∷ sorts) (value ∷ values) fit =
    ap (λ b. if b then argument_clash sorts (written_args (place + length (spelled value) + 1) values) else Some place) fit.0 ∙ no_clash (place + length (spelled value) + 1) sorts values fit.2
no_clash place [] (value ∷ values) fit = absurd fit
no_clash place (sort ∷ sorts) [] fit = absurd fit

same_values : (place : ℕ) (values : List Value) → argument_values (written_args place values) ≡ values
same_values place [] = refl
same_values place (value ∷ values) = ap (λ l. value ∷ l) (same_values (place + length (spelled value) + 1) values)

not_refused : (entries : List NameEntry) (place : ℕ) (event : Event) → IsSignature entries → IsDeclared entries event → event_refusal entries (written_event (names_of entries) place event) ≡ None
not_refused entries place event signature d =
    let name = name_of (names_of entries) event in
    let inner = place + length name + 1 in
    let entry : entry_of_name entries name ≡ Some d.entry = ap (option_and_then (slice_get entries)) (number_is entries event signature d) ∙ d.found in
    ap (λ e. event_refusal_by e (written_event (names_of entries) place event)) entry
    ∙ ap (λ b. if b then option_map SortClash (argument_clash d.entry.sorts (written_args inner event.args)) else Some (Arity place))
    (true_from_eq (length (written_args inner event.args)) (length d.entry.sorts) (as_many inner d.entry.sorts event.args d.fit))
    ∙ ap (option_map SortClash) (no_clash inner d.entry.sorts event.args d.fit)

none_refused : (entries : List NameEntry) (place : ℕ) (events : List Event) → IsSignature entries → AllByRecursion (IsDeclared entries) events
    → first_event_refusal entries (written_events (names_of entries) place events) ≡ None
none_refused entries place [] signature all = refl
none_refused entries place (event ∷ events) signature all =
    (λ j. option_or (not_refused entries place event signature all.0 j) (first_event_refusal entries
    (written_events (names_of entries) (place + length (spelled_event (names_of entries) event) + 1) events)))
    ∙ none_refused entries (place + length (spelled_event (names_of entries) event) + 1) events signature all.1

same_event : (entries : List NameEntry) (place : ℕ) (event : Event) → IsSignature entries → IsDeclared entries event → event_from_written entries (written_event (names_of entries) place event) ≡ event
same_event entries place event signature d = λ j. record {
  name = record { 0 = unwrap_or (number_is entries event signature d j) 0 };
  args = same_values (place + length (name_of (names_of entries) event) + 1) event.args j;
}

same_events : (entries : List NameEntry) (place : ℕ) (events : List Event) → IsSignature entries → AllByRecursion (IsDeclared entries) events
    → map (event_from_written entries) (written_events (names_of entries) place events) ≡ events
same_events entries place [] signature all = refl
same_events entries place (event ∷ events) signature all =
    λ j. same_event entries place event signature all.0 j ∷ same_events entries (place + length (spelled_event (names_of entries) event) + 1) events signature all.1 j

-- events without repeats are all kept
all_kept : (before events : List Event) → HasNoRepeats (before ++ events) → with_events_put before events ≡ before ++ events
all_kept before [] distinct = sym (append-nil before)
all_kept before (event ∷ events) distinct =
    let fresh : has_event before event ≡ false = not_there (has_event before event) (has_event-Decides before event) (HasNoRepeats-middle before events event distinct) in
    let onto = append_assoc before (event ∷ []) events in
    ap (λ b. with_events_put (if b then before else before ++ event ∷ []) events) fresh ∙ all_kept (before ++ event ∷ []) events (subst HasNoRepeats (sym onto) distinct) ∙ onto
  where
    not_there : (b : Bool) → Decides b (Contains before event) → (Contains before event → ⊥) → b ≡ false
    not_there true d h = absurd (h (d.0 refl))
    not_there false d h = refl

printable : (entries : List NameEntry) (events : List Event) → IsSignature entries → AllByRecursion (IsDeclared entries) events → ArePrintable (names_of entries) events
printable entries [] signature all = tt
printable entries (event ∷ events) signature all = (word_is entries event signature all.0, are_values all.0.entry.sorts event.args all.0.fit, printable entries events signature all.1)

count_same : (names : List (List ℕ)) (place : ℕ) (events : List Event) → length (written_events names place events) ≡ length events
count_same names place [] = refl
count_same names place (event ∷ events) = let later = count_same names (place + length (spelled_event names event) + 1) events in omega (arith, later)

-- the line has no end before its own
commas_stay : (values : List Value) → AreValues values → Stays Outside (commas values)
commas_stay [] are = (refl, refl)
commas_stay (value ∷ values) are = stays_append Outside (44 ∷ spelled value) (commas values) (stays_append Outside (44 ∷ []) (spelled value) (refl, refl) (spelled_stays value are.0))
    (commas_stay values are.1)

row_stays : (values : List Value) → AreValues values → Stays Outside (spelled_row values)
row_stays [] are = (refl, refl)
row_stays (value ∷ values) are = stays_append Outside (spelled value) (commas values) (spelled_stays value are.0) (commas_stay values are.1)

event_stays : (names : List (List ℕ)) (event : Event) → IsTrue (is_word (name_of names event)) → AreValues event.args → Stays Outside (spelled_event names event)
event_stays names event word are =
    stays_append Outside (name_of names event ++ 40 ∷ spelled_row event.args) (41 ∷ [])
    (stays_append Outside (name_of names event) (40 ∷ spelled_row event.args) (plain_stays (name_of names event) (word_plain (name_of names event) word))
    (stays_append Outside (40 ∷ []) (spelled_row event.args) (refl, refl) (row_stays event.args are))) (refl, refl)

events_stay : (names : List (List ℕ)) (events : List Event) → ArePrintable names events → Stays Outside (spaced names events)
events_stay names [] are = (refl, refl)
events_stay names (event ∷ events) are =
    stays_append Outside (32 ∷ spelled_event names event) (spaced names events) (stays_append Outside (32 ∷ []) (spelled_event names event) (refl, refl)
    (event_stays names event are.0 are.1)) (events_stay names events are.2)

mark_stays : (kind : StepKind) → Stays Outside (mark_of kind ∷ [])
mark_stays System = (refl, refl)
mark_stays Inserted = (refl, refl)

line_ends : (names : List (List ℕ)) (kind : StepKind) (time : ℕ) (events : List Event) → time < 2 ^ 64 → ArePrintable names events
    → length_to_end Outside (spelled_step names kind time events) ≡ Some (length (spelled_step names kind time events))
line_ends names kind time events small are =
    let front = mark_of kind ∷ decimal time ++ spaced names events in
    let stays = stays_append Outside (mark_of kind ∷ decimal time) (spaced names events)
    (stays_append Outside (mark_of kind ∷ []) (decimal time) (mark_stays kind) (plain_stays (decimal time) (decimal_plain time small))) (events_stay names events are) in
    end_onward Outside front (59 ∷ []) stays.0 ∙ ap (λ s. option_map (λ n. n + length front) (length_to_end s (59 ∷ []))) stays.1 ∙ ap Some (omega (arith, length-append front (59 ∷ [])))

-- a time's digits
digit_class : (x : ℕ) → digit_value x < 10 → (x ≢ 45) × (is_blank x ≡ false)
digit_class x h = ((λ e. absurd (grind (arith, nat_tests))), grind (arith, nat_tests))

time_class : (digits rest : List ℕ) → 0 < length digits → AllDigits 10 digits → (slice_index (digits ++ rest) 0 ≢ 45) × (is_blank (slice_index (digits ++ rest) 0) ≡ false)
time_class [] rest some all = absurd (omega arith)
time_class (x ∷ digits) rest some all = digit_class x all.0

spaced_ends : (names : List (List ℕ)) (time : ℕ) (events : List Event) → EndsBefore (Num (pos time)) (spaced names events ++ 59 ∷ [])
spaced_ends names time [] = λ low high. omega (arith, high)
spaced_ends names time (event ∷ events) = λ low high. omega (arith, low)

line_leads : PrintedIsToken → (names : List (List ℕ)) (kind : StepKind) (time : ℕ) (events : List Event) → time < 2 ^ 63 → ArePrintable names events →
    LogTokensLead (spelled_step names kind time events) 0 (record_tokens (Line kind time (written_events names (1 + length (decimal time) + 1) events))) (length (spelled_step names kind time events))
line_leads printed names kind time events small are =
    let bytes = spelled_step names kind time events in
    let digits = decimal time in
    let rest = spaced names events ++ 59 ∷ [] in
    let numeral = decimal_is_IsNumeral time (omega (arith, small)) in
    let class = time_class digits rest numeral.0.0 numeral.0.1 in
    let e0 : bytes ≡ mark_of kind ∷ (digits ++ rest) = append_assoc (mark_of kind ∷ digits) (spaced names events) (59 ∷ []) in
    let e1 : drop 1 bytes ≡ digits ++ rest = ap (drop 1) e0 in
    let e2 : drop (1 + length digits) bytes ≡ rest = behind_front bytes 1 digits rest e1 in
    let at : slice_index bytes 1 ≡ slice_index (digits ++ rest) 0 = at_place bytes 1 (digits ++ rest) e1 in
    let token = value_stands printed bytes 1 (Num (pos time)) rest small (spaced_ends names time events) e1 in
    let later = events_lead printed names bytes (1 + length digits) events are e2 in (
      0 + 1,
      1,
      mark_stands bytes 0 (mark_of kind) (digits ++ rest) e0,
      subst (λ n. IsLogGap bytes n 1) (omega arith) (gap_none bytes 1 (ap is_blank at ∙ class.1)),
      (1 + length digits, 1 + length digits + space_before events, (token, λ is. class.0 (sym at ∙ is)), later.0, later.1),
    )

small_time : (kind : StepKind) (time : ℕ) → time ≤ most_time kind → time < 2 ^ 63
small_time System time h = omega (arith, h)
small_time Inserted time h = omega (arith, h)

mark_not_blank : (kind : StepKind) → is_blank (mark_of kind) ≡ false
mark_not_blank System = refl
mark_not_blank Inserted = refl

line_judged : (entries : List NameEntry) (kind : StepKind) (time : ℕ) (events : List Event) → IsSignature entries → IsWithinLimits entries kind time events
    → judged_record entries (Line kind time (written_events (names_of entries) (1 + length (decimal time) + 1) events)) ≡ Ok (Step kind time events)
line_judged entries kind time events signature w =
    let place = 1 + length (decimal time) + 1 in
    let written = written_events (names_of entries) place events in
    in_time (most_time kind) time (Err TimeTooLarge) (judged_step kind time (events_from_written entries written) (first_event_refusal entries written)) w.timed
    ∙ ap (judged_step kind time (events_from_written entries written)) (none_refused entries place events signature w.declared)
    ∙ ap (λ es. Ok (Step kind time es)) (ap (with_events_put []) (same_events entries place events signature w.declared) ∙ all_kept [] events w.distinct)

pub read_again : PrintedIsToken → StepLineIsRead
read_again printed entries mode kind time events rest signature read w =
    let names = names_of entries in
    let bytes = spelled_step names kind time events in
    let text = step_line names kind time events ++ rest in
    let small = small_time kind time w.timed in
    let are = printable entries events signature w.declared in
    let split : text ≡ bytes ++ 10 ∷ rest = append_assoc bytes (10 ∷ []) rest in
    let behind : behind_blanks text ≡ text = begun_stays text (mark_not_blank kind) in
    let front : length_to_end Outside (take MOST_RECORD_BYTES bytes) ≡ Some (length bytes) = ap (length_to_end Outside) (take_all MOST_RECORD_BYTES bytes w.short) ∙ line_ends names kind
    time events (omega (arith, small)) are in
    let ends = end_stays Outside MOST_RECORD_BYTES bytes (10 ∷ rest) (length bytes) front in
    let here : behind_blanks text ≡ bytes ++ 10 ∷ rest = behind ∙ split in
    let is : record_bytes text (length bytes) ≡ bytes = ap (take (length bytes)) here ∙ take_at bytes (10 ∷ rest) (length bytes) refl in
    let written = written_events names (1 + length (decimal time) + 1) events in
    let few : length written ≤ MOST_EVENTS = omega (arith, count_same names (1 + length (decimal time) + 1) events, w.few) in
    let spelled : IsRecordSpelled mode bytes (Line kind time written) = ((read, few), line_leads printed names kind time events small are) in (
      length bytes,
      ap record_length here ∙ ends.0,
      subst (λ l. IsRecordAnswer entries mode l (Ok (Step kind time events))) (sym is) (Line kind time written, spelled, line_judged entries kind time events signature w),
      sym (ap (drop (length bytes)) here ∙ drop_at bytes (10 ∷ rest) (length bytes) refl),
    )
