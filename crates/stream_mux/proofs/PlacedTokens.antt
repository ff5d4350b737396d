-- Tokens, records and refusals with their places changed.
use Rattle.enf_data.specs.declared.events.Event.{Event}
use Rattle.enf_data.specs.declared.values.Value.{Value}
use Rattle.log_stream.specs.declared.items.LogItem.TheVariants.{Tick}
use Rattle.log_stream.specs.declared.items.LogMode.{LogMode}
use Rattle.log_stream.specs.declared.items.LogRefusal.{LogRefusal}
use Rattle.log_stream.specs.declared.items.LogRefusal.TheVariants.{Arity, SortClash, TimeTooLarge}
use Rattle.log_stream.specs.meaning.LogGrammar.{IsLogGap, IsLogTokenAt, IsRecordForm, Line, LogArgument, LogMark, LogName, LogTime}
use Rattle.log_stream.specs.meaning.LogGrammar.{LogToken, LogTokensLead, TickLine, WrittenArgument, WrittenEvent}
use Rattle.log_stream.specs.meaning.LogGrammar.{WrittenRecord, argument_clash, argument_token, argument_values, entry_of_name}
use Rattle.log_stream.specs.meaning.LogGrammar.{event_from_written, event_refusal, event_refusal_by, event_tokens}
use Rattle.log_stream.specs.meaning.LogGrammar.{events_from_written, first_event_refusal, judged_record, judged_step, mark_of}
use Rattle.log_stream.specs.meaning.LogGrammar.{record_tokens, row_tokens, with_events_put}
use Rattle.signature.specs.declared.entries.NameEntry.{NameEntry}
use Rattle.signature.specs.declared.entries.Sort.{Sort}
use Rattle.signature.specs.meaning.Columns.{has_sort}
use Rattle.std.proofs.Common.{ap, arith, refl, subst, sym, ◌∙◌}
use Rattle.std.proofs.lemmas.List.{drop-drop, get_or-drop, length-drop, length-map, map-append}
use Rattle.std.specs.List.{flat_map}
use Rattle.std.specs.Option.{option_map, option_or}
use Rattle.std.specs.Prelude.{ℕ, List, [], ◌∷◌, ◌++◌, ◌≡◌, ◌≢◌, ◌+◌, ◌-◌, Bool, true, false, ◌==◌, cond, drop, length, map, nat_lt, slice_index, take_while, IsTrue}
use Rattle.std.specs.Prelude.{Option, None, Some, Ok, Err}
use Rattle.stream_mux.specs.machine.TagLaws.{answer_at, refusal_at}
use Rattle.trace_meaning.specs.declared.kinds.StepKind.{StepKind}
use Rattle.trace_meaning.specs.declared.kinds.StepKind.TheVariants.{System}
use Rattle.trace_meaning.specs.meaning.Traces.{most_time}
use Rattle.enf_value.specs.meaning.Tokens.{ValueTokenAt, is_blank, is_word_byte}

-- ---- What a change of places makes of tokens and records.

abbrev pub placed_token : (ℕ → ℕ) → LogToken → LogToken
placed_token f (LogMark byte) = LogMark byte
placed_token f (LogTime time) = LogTime time
placed_token f (LogName place name) = LogName (f place) name
placed_token f (LogArgument place value) = LogArgument (f place) value

abbrev pub placed_argument : (ℕ → ℕ) → WrittenArgument → WrittenArgument
placed_argument f arg = record { place = f arg.place; value = arg.value }

abbrev pub placed_event : (ℕ → ℕ) → WrittenEvent → WrittenEvent
placed_event f event = record { place = f event.place; name = event.name; args = map (placed_argument f) event.args }

abbrev pub placed_record : (ℕ → ℕ) → WrittenRecord → WrittenRecord
placed_record f (Line kind time events) = Line kind time (map (placed_event f) events)
placed_record f (TickLine time) = TickLine time

later_arguments : (f : ℕ → ℕ) (args : List WrittenArgument)
    → flat_map (λ next. LogMark 44 ∷ argument_token next ∷ []) (map (placed_argument f) args)
    ≡ map (placed_token f) (flat_map (λ next. LogMark 44 ∷ argument_token next ∷ []) args)
later_arguments f [] = refl
later_arguments f (arg ∷ args) = ap (λ l. LogMark 44 ∷ LogArgument (f arg.place) arg.value ∷ l) (later_arguments f args)

row_placed : (f : ℕ → ℕ) (args : List WrittenArgument) → row_tokens (map (placed_argument f) args) ≡ map (placed_token f) (row_tokens args)
row_placed f [] = refl
row_placed f (arg ∷ args) = ap (λ l. LogArgument (f arg.place) arg.value ∷ l) (later_arguments f args)

event_placed : (f : ℕ → ℕ) (event : WrittenEvent) → event_tokens (placed_event f event) ≡ map (placed_token f) (event_tokens event)
event_placed f event =
    ap (λ l. LogName (f event.place) event.name ∷ LogMark 40 ∷ l)
    (ap (λ l. l ++ LogMark 41 ∷ []) (row_placed f event.args) ∙ sym (map-append (placed_token f) (row_tokens event.args) (LogMark 41 ∷ [])))

events_placed : (f : ℕ → ℕ) (events : List WrittenEvent)
    → flat_map event_tokens (map (placed_event f) events) ≡ map (placed_token f) (flat_map event_tokens events)
events_placed f [] = refl
events_placed f (event ∷ events) =
    ap (λ l. l ++ flat_map event_tokens (map (placed_event f) events)) (event_placed f event)
    ∙ ap (λ l. map (placed_token f) (event_tokens event) ++ l) (events_placed f events)
    ∙ sym (map-append (placed_token f) (event_tokens event) (flat_map event_tokens events))

pub tokens_placed : (f : ℕ → ℕ) (written : WrittenRecord) → record_tokens (placed_record f written) ≡ map (placed_token f) (record_tokens written)
tokens_placed f (Line kind time events) =
    ap (λ l. LogMark (mark_of kind) ∷ LogTime time ∷ l)
    (ap (λ l. l ++ LogMark 59 ∷ []) (events_placed f events)
    ∙ sym (map-append (placed_token f) (flat_map event_tokens events) (LogMark 59 ∷ [])))
tokens_placed f (TickLine time) = refl

pub form_placed : (f : ℕ → ℕ) (mode : LogMode) (written : WrittenRecord) → IsRecordForm mode written → IsRecordForm mode (placed_record f written)
form_placed f mode (Line kind time events) form = (form.0, omega (arith, form.1, length-map events (placed_event f)))
form_placed f mode (TickLine time) form = tt

-- ---- And of what they say.

clash_placed : (f : ℕ → ℕ) (sorts : List Sort) (args : List WrittenArgument)
    → argument_clash sorts (map (placed_argument f) args) ≡ option_map f (argument_clash sorts args)
clash_placed f [] args = refl
clash_placed f (sort ∷ sorts) [] = refl
clash_placed f (sort ∷ sorts) (arg ∷ args) = by (has_sort sort arg.value) (clash_placed f sorts args)
  where
    by : (b : Bool) → argument_clash sorts (map (placed_argument f) args) ≡ option_map f (argument_clash sorts args)
        → cond b (argument_clash sorts (map (placed_argument f) args)) (Some (f arg.place))
        ≡ option_map f (cond b (argument_clash sorts args) (Some arg.place))
    by true rest = rest
    by false rest = refl

refusal_of_clash : (f : ℕ → ℕ) (clash : Option ℕ) → option_map SortClash (option_map f clash) ≡ option_map (refusal_at f) (option_map SortClash clash)
refusal_of_clash f None = refl
refusal_of_clash f (Some place) = refl

refused_placed : (f : ℕ → ℕ) (entry : Option NameEntry) (event : WrittenEvent)
    → event_refusal_by entry (placed_event f event) ≡ option_map (refusal_at f) (event_refusal_by entry event)
refused_placed f None event = refl
refused_placed f (Some entry) event =
    ap (λ n. cond (n == length entry.sorts) (option_map SortClash (argument_clash entry.sorts (map (placed_argument f) event.args)))
    (Some (Arity (f event.place)))) (length-map event.args (placed_argument f))
    ∙ by (length event.args == length entry.sorts)
  where
    by : (b : Bool) → cond b (option_map SortClash (argument_clash entry.sorts (map (placed_argument f) event.args))) (Some (Arity (f event.place)))
        ≡ option_map (refusal_at f) (cond b (option_map SortClash (argument_clash entry.sorts event.args)) (Some (Arity event.place)))
    by true = ap (option_map SortClash) (clash_placed f entry.sorts event.args) ∙ refusal_of_clash f (argument_clash entry.sorts event.args)
    by false = refl

first_of_two : (f : ℕ → ℕ) (first rest : Option LogRefusal)
    → option_or (option_map (refusal_at f) first) (option_map (refusal_at f) rest) ≡ option_map (refusal_at f) (option_or first rest)
first_of_two f None rest = refl
first_of_two f (Some refusal) rest = refl

first_placed : (f : ℕ → ℕ) (entries : List NameEntry) (events : List WrittenEvent)
    → first_event_refusal entries (map (placed_event f) events) ≡ option_map (refusal_at f) (first_event_refusal entries events)
first_placed f entries [] = refl
first_placed f entries (event ∷ events) =
    ap (λ first. option_or first (first_event_refusal entries (map (placed_event f) events)))
    (refused_placed f (entry_of_name entries event.name) event)
    ∙ ap (option_or (option_map (refusal_at f) (event_refusal entries event))) (first_placed f entries events)
    ∙ first_of_two f (event_refusal entries event) (first_event_refusal entries events)

values_placed : (f : ℕ → ℕ) (args : List WrittenArgument) → argument_values (map (placed_argument f) args) ≡ argument_values args
values_placed f [] = refl
values_placed f (arg ∷ args) = ap (λ l. arg.value ∷ l) (values_placed f args)

same_event : (f : ℕ → ℕ) (entries : List NameEntry) (event : WrittenEvent)
    → event_from_written entries (placed_event f event) ≡ event_from_written entries event
same_event f entries event =
    λ i. record { name = (event_from_written entries event).name; args = values_placed f event.args i }

same_events : (f : ℕ → ℕ) (entries : List NameEntry) (events : List WrittenEvent)
    → map (event_from_written entries) (map (placed_event f) events) ≡ map (event_from_written entries) events
same_events f entries [] = refl
same_events f entries (event ∷ events) = λ i. same_event f entries event i ∷ same_events f entries events i

judged_with : (f : ℕ → ℕ) (kind : StepKind) (time : ℕ) (events : List Event) (refusal : Option LogRefusal)
    → judged_step kind time events (option_map (refusal_at f) refusal) ≡ answer_at f (judged_step kind time events refusal)
judged_with f kind time events None = refl
judged_with f kind time events (Some refusal) = refl

pub judged_placed : (f : ℕ → ℕ) (entries : List NameEntry) (written : WrittenRecord)
    → judged_record entries (placed_record f written) ≡ answer_at f (judged_record entries written)
judged_placed f entries (Line kind time events) = by (nat_lt (most_time kind) time)
  where
    by : (b : Bool) → cond b (Err TimeTooLarge) (judged_step kind time (events_from_written entries (map (placed_event f) events))
        (first_event_refusal entries (map (placed_event f) events)))
        ≡ answer_at f (cond b (Err TimeTooLarge) (judged_step kind time (events_from_written entries events) (first_event_refusal entries events)))
    by true = refl
    by false = ap (λ l. judged_step kind time (with_events_put [] l) (first_event_refusal entries (map (placed_event f) events)))
        (same_events f entries events)
        ∙ ap (judged_step kind time (events_from_written entries events)) (first_placed f entries events)
        ∙ judged_with f kind time (events_from_written entries events) (first_event_refusal entries events)
judged_placed f entries (TickLine time) = by (nat_lt (most_time System) time)
  where
    by : (b : Bool) → cond b (Err TimeTooLarge) (Ok (Tick time)) ≡ answer_at f (cond b (Err TimeTooLarge) (Ok (Tick time)))
    by true = refl
    by false = refl

-- ---- Tokens behind a front of the bytes.

abbrev pub onward : (n : ℕ) → ℕ → ℕ
onward n place = n + place

abbrev pub backward : (n : ℕ) → ℕ → ℕ
backward n place = place - n

value_onward : (bytes : List ℕ) (n at end : ℕ) (value : Value) → ValueTokenAt (drop n bytes) at end value
    → ValueTokenAt bytes (n + at) (n + end) value
value_onward bytes n at end value token = record {
  token = token.token;
  rest = token.rest;
  splits = sym (drop-drop at n bytes) ∙ token.splits;
  ends = omega (arith, token.ends);
  stands = token.stands;
  whole = token.whole;
  fits = token.fits;
}

value_backward : (bytes : List ℕ) (n at end : ℕ) (value : Value) → ValueTokenAt bytes (n + at) end value
    → ValueTokenAt (drop n bytes) at (end - n) value
value_backward bytes n at end value token = record {
  token = token.token;
  rest = token.rest;
  splits = drop-drop at n bytes ∙ token.splits;
  ends = omega (arith, token.ends);
  stands = token.stands;
  whole = token.whole;
  fits = token.fits;
}

pub token_onward : (bytes : List ℕ) (n at end : ℕ) (token : LogToken) → IsLogTokenAt (drop n bytes) at end token
    → IsLogTokenAt bytes (n + at) (n + end) (placed_token (onward n) token)
token_onward bytes n at end (LogMark byte) h =
    (omega (arith, h.0, length-drop n bytes), sym (get_or-drop n bytes at 0) ∙ h.1, omega (arith, h.2))
token_onward bytes n at end (LogTime time) h =
    (value_onward bytes n at end _ h.0, subst (λ b. b ≢ 45) (get_or-drop n bytes at 0) h.1)
token_onward bytes n at end (LogName place name) h =
    (ap (onward n) h.0, h.1, h.2 ∙ ap (λ l. take_while is_word_byte l) (drop-drop at n bytes), omega (arith, h.3))
token_onward bytes n at end (LogArgument place value) h = (ap (onward n) h.0, value_onward bytes n at end value h.1)

pub token_backward : (bytes : List ℕ) (n at end : ℕ) (token : LogToken) → IsLogTokenAt bytes (n + at) end token
    → IsLogTokenAt (drop n bytes) at (end - n) (placed_token (backward n) token)
token_backward bytes n at end (LogMark byte) h =
    (omega (arith, h.0, length-drop n bytes), get_or-drop n bytes at 0 ∙ h.1, omega (arith, h.2))
token_backward bytes n at end (LogTime time) h =
    (value_backward bytes n at end _ h.0, subst (λ b. b ≢ 45) (sym (get_or-drop n bytes at 0)) h.1)
token_backward bytes n at end (LogName place name) h =
    (let e = h.0 in omega (arith, e), h.1, h.2 ∙ ap (λ l. take_while is_word_byte l) (sym (drop-drop at n bytes)), omega (arith, h.3))
token_backward bytes n at end (LogArgument place value) h = (let e = h.0 in omega (arith, e), value_backward bytes n at end value h.1)

gap_onward : (bytes : List ℕ) (n from to : ℕ) → IsLogGap (drop n bytes) from to → IsLogGap bytes (n + from) (n + to)
gap_onward bytes n from to gap = record {
  onward = omega (arith, gap.onward);
  blanks = λ k low high.
      let there : n + (k - n) ≡ k = omega (arith, low) in
      subst (λ b. IsTrue (is_blank b)) (get_or-drop n bytes (k - n) 0 ∙ ap (λ j. slice_index bytes j) there)
      (gap.blanks (k - n) (omega (arith, low)) (omega (arith, low, high)));
  ends = ap is_blank (sym (get_or-drop n bytes to 0)) ∙ gap.ends;
}

pub leads_onward : (bytes : List ℕ) (n from : ℕ) (tokens : List LogToken) (to : ℕ) → LogTokensLead (drop n bytes) from tokens to
    → LogTokensLead bytes (n + from) (map (placed_token (onward n)) tokens) (n + to)
leads_onward bytes n from [] to e = ap (onward n) e
leads_onward bytes n from (token ∷ tokens) to h = (
  n + h.0,
  n + h.1,
  token_onward bytes n from h.0 token h.2,
  gap_onward bytes n h.0 h.1 h.3,
  leads_onward bytes n h.1 tokens to h.4,
)
