-- Generated steps are within the limits of what is read.
use Rattle.std.proofs.Common.{◌≡◌, ℕ, zero, suc, ◌+◌, ◌*◌, ◌^◌, ◌%◌, ◌<◌, ◌≤◌, nat_eq, nat_le, nat_lt, lit<, Bool, true, false, ◌&&◌, cond, List, [], ◌∷◌, ◌++◌, length, refl, sym, ap, ◌∙◌, subst}
use Rattle.std.proofs.Common.{arith, Option, None, Some, ⊎_elim}
use Rattle.std.specs.Prelude.{Contains, codes, decimal, slice_get, slice_index_or, unwrap_or}
use Rattle.std.specs.List.{AllByRecursion, flat_map}
use Rattle.std.specs.Str.{IsAscii}
use Rattle.std.specs.Fmt.{digits}
use Rattle.std.proofs.lemmas.Bool.{true≢false, and_parts as both}
use Rattle.std.proofs.lemmas.Bool.Decides.{nat_tests}
use Rattle.std.proofs.lemmas.List.{append-nil, length-append}
use Rattle.std.proofs.lemmas.List.Elements.{Contains-append_left, Contains-append_right, Contains-push, Contains-push_cases}
use Rattle.std.proofs.lemmas.Fmt.{length-decimal-le}
use Rattle.std.proofs.lemmas.Str.{IsUtf8-from_ascii}
use Rattle.enf_data.specs.meaning.Values.{has_event}
use Rattle.enf_data.proofs.ValueEquality.{has_event-Decides}
use Rattle.enf_data.specs.meaning.Membership.{HasNoRepeats}
use Rattle.enf_value.specs.meaning.Tokens.{spelled}
use Rattle.enf_data.specs.meaning.Texts.{IsTextValue}
use Rattle.enf_data.specs.declared.events.Event.{Event}
use Rattle.signature.specs.declared.entries.NameEntry.{NameEntry}
use Rattle.signature.specs.declared.entries.Sort.{Sort}
use Rattle.signature.specs.meaning.Grammar.{entry_names, name_number}
use Rattle.log_stream.specs.meaning.LogGrammar.{with_event_put, with_events_put, spelled_event}
use Rattle.trace_meaning.specs.declared.kinds.StepKind.TheVariants.{System}
use Rattle.enf_data.specs.declared.steps.Step.{Step}
use Rattle.log_stream.specs.machine.StepLimits.{FitColumns, IsDeclared, IsWithinLimits}
use Rattle.log_gen.proofs.StepLaws.{early}
use Rattle.log_gen.specs.meaning.GeneratedLogs.{draw, drawn_event, drawn_events, drawn_names, drawn_number, event_count, first_draw, generated, generated_step}
use Rattle.log_gen.specs.meaning.Samples.{sample_entries}
use Rattle.enf_data.specs.declared.values.Value.TheVariants as values
use Rattle.signature.specs.declared.entries.Sort.TheVariants as sorts

-- a test that holds of each number below a bound
all_below : ℕ → (ℕ → Bool) → Bool
all_below zero test = true
all_below (suc bound) test = test bound && all_below bound test

all_below-at : (bound : ℕ) (test : ℕ → Bool) (n : ℕ) → all_below bound test ≡ true → n < bound → test n ≡ true
unfolding all_below
all_below-at zero test n e less = absurd (omega arith)
all_below-at (suc bound) test n e less =
    let parts = both (test bound) (all_below bound test) e in
    by (nat_eq n bound) refl parts.0 (λ small. all_below-at bound test n parts.1 small)
  where
    by : (b : Bool) → nat_eq n bound ≡ b → test bound ≡ true → (n < bound → test n ≡ true) → test n ≡ true
    by true same here below = let is : n ≡ bound = grind (arith, nat_tests, same) in ap test is ∙ here
    by false other here below = let small : n < bound = grind (arith, nat_tests, other) in below small

-- each byte is ASCII
ascii : List ℕ → Bool
ascii [] = true
ascii (byte ∷ bytes) = nat_lt byte 128 && ascii bytes

ascii-IsAscii : (bytes : List ℕ) → ascii bytes ≡ true → IsAscii bytes
unfolding ascii
ascii-IsAscii [] e = λ i. lit< tt
ascii-IsAscii (byte ∷ bytes) e =
    let parts = both (nat_lt byte 128) (ascii bytes) e in
    elim [ zero ↦ grind (arith, nat_tests, parts.0) | suc i ↦ ascii-IsAscii bytes parts.1 i ]

-- the texts of drawn events
is_user_fine : ℕ → Bool
is_user_fine n = ascii (codes "u" ++ decimal n) && (nat_le (length (codes "u" ++ decimal n)) 1024 && nat_le (length (spelled (values.Text (codes "u" ++ decimal n)))) 5)

users_fine : all_below 16 is_user_fine ≡ true
unfolding all_below is_user_fine ascii digits
users_fine = refl

user_text : (n : ℕ) → n < 16 → IsTextValue (codes "u" ++ decimal n) × (length (spelled (values.Text (codes "u" ++ decimal n))) ≤ 5)
unfolding is_user_fine
user_text n less =
    let fine = both (ascii (codes "u" ++ decimal n)) (nat_le (length (codes "u" ++ decimal n)) 1024 && nat_le (length (spelled (values.Text (codes "u" ++ decimal n)))) 5)
    (all_below-at 16 is_user_fine n users_fine less) in
    let lengths = both (nat_le (length (codes "u" ++ decimal n)) 1024) (nat_le (length (spelled (values.Text (codes "u" ++ decimal n)))) 5) fine.1 in
    (record { utf8 = IsUtf8-from_ascii (codes "u" ++ decimal n) (ascii-IsAscii (codes "u" ++ decimal n) fine.0); short = grind (arith, nat_tests, lengths.0) }, grind (arith, nat_tests, lengths.1))

-- one column of texts
one_text : List Sort → Bool
one_text [] = false
one_text (sorts.Text ∷ []) = true
one_text (sorts.Text ∷ sort ∷ rest) = false
one_text (sorts.Int ∷ rest) = false

one_text-is : (columns : List Sort) → one_text columns ≡ true → columns ≡ sorts.Text ∷ []
unfolding one_text
one_text-is [] e = absurd (cc)
one_text-is (sorts.Text ∷ []) e = refl
one_text-is (sorts.Text ∷ sort ∷ rest) e = absurd (cc)
one_text-is (sorts.Int ∷ rest) e = absurd (cc)

fits : Option NameEntry → Bool
fits None = false
fits (Some entry) = one_text entry.sorts

fits-entry : (found : Option NameEntry) → fits found ≡ true → (entry : NameEntry) × (found ≡ Some entry) × (entry.sorts ≡ sorts.Text ∷ [])
unfolding fits
fits-entry None e = absurd (cc)
fits-entry (Some entry) e = (entry, refl, one_text-is entry.sorts e)

-- the number of one of the names that are drawn
number : ℕ → ℕ
number n = unwrap_or (name_number sample_entries (slice_index_or drawn_names n [])) 0

is_name_fine : ℕ → Bool
is_name_fine n = fits (slice_get sample_entries (number n)) && nat_le (length (slice_index_or (entry_names sample_entries) (number n) [])) 7

names_fine : all_below 5 is_name_fine ≡ true
unfolding all_below is_name_fine fits one_text number
names_fine = refl

-- an event of a declared name, with arguments that fit, whose text is short
record Fine (event : Event) : Type 0 where
  declared : IsDeclared sample_entries event
  short : length (spelled_event (entry_names sample_entries) event) ≤ 14

event_length : (name row : List ℕ) → length (name ++ 40 ∷ row ++ 41 ∷ []) ≡ length name + length row + 2
event_length name row = simp length-append (omega arith)

drawn_fine : (c e : ℕ) → Fine (drawn_event c e)
unfolding is_name_fine number
drawn_fine c e =
    let n : c % 5 < 5 = omega arith in
    let m : e % 16 < 16 = omega arith in
    let fine = both (fits (slice_get sample_entries (drawn_number c))) (nat_le (length (slice_index_or (entry_names sample_entries) (drawn_number c) [])) 7)
    (all_below-at 5 is_name_fine (c % 5) names_fine n) in
    let entry = fits-entry (slice_get sample_entries (drawn_number c)) fine.0 in
    let text = user_text (e % 16) m in
    let name : length (slice_index_or (entry_names sample_entries) (drawn_number c) []) ≤ 7 = grind (arith, nat_tests, fine.1) in
    record {
      declared = record {
        entry = entry.0;
        found = entry.1;
        fit = subst (λ (columns : List Sort). FitColumns columns (values.Text (codes "u" ++ decimal (e % 16)) ∷ [])) (sym entry.2) (refl, text.0, tt);
      };
      short =
          let argument = spelled (values.Text (codes "u" ++ decimal (e % 16))) in
          let row : length (argument ++ []) ≡ length argument = ap length (append-nil argument) in
          subst (λ (n : ℕ). n ≤ 14) (sym (event_length (slice_index_or (entry_names sample_entries) (drawn_number c) []) (argument ++ []))) (omega (arith, row, text.1, name));
    }

-- what holds of each item and of one more
each_push : {X : Type 0} (P : X → Type 0) (xs : List X) (x : X) → AllByRecursion P xs → P x → AllByRecursion P (xs ++ x ∷ [])
each_push P [] x each last = (last, tt)
each_push P (y ∷ xs) x each last = (each.0, each_push P xs x each.1 last)

drawn_events_fine : (start first pairs : ℕ) → AllByRecursion Fine (drawn_events start first pairs)
drawn_events_fine start first zero = tt
drawn_events_fine start first (suc pairs) =
    each_push Fine (drawn_events start first pairs) (drawn_event (draw start (first + 2 * pairs)) (draw start (first + 2 * pairs + 1)))
    (drawn_events_fine start first pairs) (drawn_fine (draw start (first + 2 * pairs)) (draw start (first + 2 * pairs + 1)))

drawn_events_few : (start first pairs : ℕ) → length (drawn_events start first pairs) ≡ pairs
drawn_events_few start first zero = refl
drawn_events_few start first (suc pairs) = length-append (drawn_events start first pairs) _ ∙ omega (arith, drawn_events_few start first pairs)

-- an event more, where it was not there
push_distinct : (events : List Event) (event : Event) → HasNoRepeats events → (Contains events event → ⊥) → HasNoRepeats (events ++ event ∷ [])
push_distinct [] event distinct absent = ((λ found. absurd (omega (arith, found.1))), tt)
push_distinct (first ∷ events) event distinct absent = (
  (λ found. ⊎_elim distinct.0 (λ same. absent (subst (Contains (first ∷ events)) (sym same) (Contains-append_left (first ∷ []) events first (Contains-push [] first))))
      (Contains-push_cases events event first found)),
  push_distinct events event distinct.1 (λ found. absent (Contains-append_right (first ∷ []) events event found)),
)

-- what holds of each event that is put, and how many are left
record Kept (events : List Event) (count : ℕ) : Type 0 where
  each : AllByRecursion Fine events
  distinct : HasNoRepeats events
  few : length events ≤ count

put_kept : (events : List Event) (event : Event) (count : ℕ) → Kept events count → Fine event → Kept (with_event_put events event) (count + 1)
put_kept events event count kept fine = by (has_event events event) refl
  where
    by : (b : Bool) → has_event events event ≡ b → Kept (cond b events (events ++ event ∷ [])) (count + 1)
    by true found = record { each = kept.each; distinct = kept.distinct; few = omega (arith, kept.few) }
    by false missing = record {
      each = each_push Fine events event kept.each fine;
      distinct = push_distinct events event kept.distinct (λ there. true≢false (sym ((has_event-Decides events event).1 there) ∙ missing));
      few = simp length-append (omega (arith, kept.few));
    }

put_all_kept : (before events : List Event) (count : ℕ) → Kept before count → AllByRecursion Fine events → Kept (with_events_put before events) (count + length events)
put_all_kept before [] count kept each = record { each = kept.each; distinct = kept.distinct; few = omega (arith, kept.few) }
put_all_kept before (event ∷ events) count kept each =
    let rest = put_all_kept (with_event_put before event) events (count + 1) (put_kept before event count kept each.0) each.1 in
    record { each = rest.each; distinct = rest.distinct; few = omega (arith, rest.few) }

-- the events of a step
step_kept : (start step : ℕ) → Kept (generated_step start step).events 3
step_kept start step =
    let first = first_draw start step + 2 in
    let count = event_count start (first_draw start step) in
    let drawn = drawn_events start first count in
    let small : count ≤ 3 = omega arith in
    let kept = put_all_kept [] drawn 0 (record { each = tt; distinct = tt; few = omega arith }) (drawn_events_fine start first count) in
    record { each = kept.each; distinct = kept.distinct; few = omega (arith, kept.few, drawn_events_few start first count, small) }

-- the length of their texts, each after a space
events_short : (events : List Event) → AllByRecursion Fine events → length (flat_map (λ event. 32 ∷ spelled_event (entry_names sample_entries) event) events) ≤ 15 * length events
events_short [] each = omega arith
events_short (event ∷ events) each =
    let both = length-append (32 ∷ spelled_event (entry_names sample_entries) event) (flat_map (λ event. 32 ∷ spelled_event (entry_names sample_entries) event) events) in
    omega (arith, both, each.0.short, events_short events each.1)

each_declared : (events : List Event) → AllByRecursion Fine events → AllByRecursion (IsDeclared sample_entries) events
each_declared [] each = tt
each_declared (event ∷ events) each = (each.0.declared, each_declared events each.1)

within_limits : (start step : ℕ) → step < 1000000 → IsWithinLimits sample_entries System (generated_step start step).time (generated_step start step).events
within_limits start step less =
    let kept = step_kept start step in
    let soon = early start (suc step) in
    let time : (generated_step start step).time < 10 ^ 8 = omega (arith, soon) in
    let digits = length-decimal-le 8 (generated_step start step).time (omega arith) time (omega (arith, soon)) in
    record {
      timed = omega (arith, soon);
      few = omega (arith, kept.few);
      distinct = kept.distinct;
      declared = each_declared _ kept.each;
      short = simp length-append (omega (arith, digits, events_short (generated_step start step).events kept.each, kept.few));
    }

-- each of the first steps
pub steps_within : (start steps : ℕ) → steps ≤ 1000000
    → AllByRecursion (λ step. IsWithinLimits sample_entries System step.time step.events) (generated start steps)
steps_within start zero few = tt
steps_within start (suc steps) few =
    each_push (λ (step : Step). IsWithinLimits sample_entries System step.time step.events) (generated start steps) (generated_step start steps)
    (steps_within start steps (omega arith)) (within_limits start steps (omega arith))
