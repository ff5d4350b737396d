-- Slices of logs, and changes that are made in slices of steps.
use Rattle.slices.proofs.Vocabulary.{◌≡◌, ℕ, Bool, true, false, cond, List, [], ◌∷◌, ◌++◌, refl, sym, ap, subst, ◌∙◌, All, All-head, All-tail, filter, filter-append, get_or, drop, ◌≤◌}
use Rattle.slices.proofs.Vocabulary.{append-nil, nil_not_cons, Event, NameId, Step, Value, Keying, cut_events, event_key, has_key, onto_slice, slice_of, Contains-filter}
use Rattle.slices.proofs.PolicyTruth.{slices_are_good}
use Rattle.slices.specs.machine.Laws.{ChangesMerge, GoodLogsStayGood, LogsHaveSlicedSteps}
use Rattle.slices.specs.meaning.SlicedLogs.{ShareNoKey, IsChangeOf, IsChangedForKeys, cut_record, record_with, slice_of_log}
use Rattle.trace_meaning.specs.meaning.Traces.{Cause, Change, Changes, Good, Leads, NeverFall, Record, StepRecord, Suppress, Tick, clock_after, recorded, time_of}

-- ---- Logs.

module _ (keying : Keying) (keys : Value → Bool) where
  recorded_with : (time : ℕ) (events : List Event) (records : List Record) (steps : List Step) → recorded records ≡ steps
      → recorded (record_with time events ∷ records) ≡ onto_slice time events steps
  recorded_with time [] records steps is = is
  recorded_with time (event ∷ events) records steps is = ap (λ l. record { time = time; events = event ∷ events } ∷ l) is

  sliced_steps : (records : List Record) → recorded (slice_of_log keying keys records) ≡ slice_of keying keys (recorded records)
  sliced_steps [] = refl
  sliced_steps (StepRecord step ∷ records) =
      recorded_with step.time (cut_events keying keys step.events) (slice_of_log keying keys records) (slice_of keying keys (recorded records)) (sliced_steps records)
  sliced_steps (Tick time ∷ records) = sliced_steps records

  time_with : (time : ℕ) (events : List Event) → time_of (record_with time events) ≡ time
  time_with time [] = refl
  time_with time (event ∷ events) = refl

  time_cut : (next : Record) → time_of (cut_record keying keys next) ≡ time_of next
  time_cut (StepRecord step) = time_with step.time (cut_events keying keys step.events)
  time_cut (Tick time) = refl

  same_clock : (clock : ℕ) (records : List Record) → clock_after clock (slice_of_log keying keys records) ≡ clock_after clock records
  same_clock clock [] = refl
  same_clock clock (next ∷ records) =
      ap (λ time. clock_after time (slice_of_log keying keys records)) (time_cut next) ∙ same_clock (time_of next) records

  still_rising : (clock : ℕ) (records : List Record) → NeverFall clock records → NeverFall clock (slice_of_log keying keys records)
  still_rising clock [] rising = tt
  still_rising clock (next ∷ records) rising = (
    subst (λ time. clock ≤ time) (sym (time_cut next)) rising.0,
    subst (λ time. NeverFall time (slice_of_log keying keys records)) (sym (time_cut next)) (still_rising (time_of next) records rising.1),
  )

pub logs_have_sliced_steps : LogsHaveSlicedSteps
logs_have_sliced_steps keying keys records = record {
  steps = sliced_steps keying keys records;
  clock = λ clock. same_clock keying keys clock records;
  rising = λ clock rising. still_rising keying keys clock records rising;
}

pub good_logs_stay_good : GoodLogsStayGood
good_logs_stay_good keying keys records policy sliced good =
    subst (λ (trace : List Step). Good policy trace (clock_after 0 (slice_of_log keying keys records))) (sym (sliced_steps keying keys records))
    (subst (λ clock. Good policy (slice_of keying keys (recorded records)) clock) (sym (same_clock keying keys 0 records))
    (slices_are_good keying keys (recorded records) (clock_after 0 records) policy sliced good))

-- ---- Changes.

-- where the item that a filter keeps stands in the list
abbrev pub StandsIn : {X : Type 0} → (X → Bool) → List X → List X → X → List X → Type 0
StandsIn {X} p xs front x back = (before : List X) × (behind : List X) × (xs ≡ before ++ x ∷ behind)
    × (filter p before ≡ front) × (filter p behind ≡ back)

nothing_stands : {X : Type 0} (front : List X) (x : X) (back : List X) → [] ≡ front ++ x ∷ back → ⊥
nothing_stands [] x back is = nil_not_cons x back is
nothing_stands (y ∷ front) x back is = nil_not_cons y (front ++ x ∷ back) is

stands_behind : {X : Type 0} (p : X → Bool) (y : X) (xs front : List X) (x : X) (back : List X)
    → ((front : List X) → filter p xs ≡ front ++ x ∷ back → StandsIn p xs front x back)
    → (b : Bool) → p y ≡ b → cond b (y ∷ filter p xs) (filter p xs) ≡ front ++ x ∷ back → StandsIn p (y ∷ xs) front x back
stands_behind p y xs front x back stands false fails is =
    let found = stands front is in
    (y ∷ found.0, found.1, ap (λ l. y ∷ l) found.2, ap (λ b. cond b (y ∷ filter p found.0) (filter p found.0)) fails ∙ found.3, found.4)
stands_behind p y xs [] x back stands true passes is =
    let same : y ≡ x = ap (λ l. get_or l 0 y) is in
    ([], xs, λ i. same i ∷ xs, refl, ap (λ l. drop 1 l) is)
stands_behind p y xs (z ∷ front) x back stands true passes is =
    let same : y ≡ z = ap (λ l. get_or l 0 y) is in
    let found = stands front (ap (λ l. drop 1 l) is) in (
      y ∷ found.0,
      found.1,
      ap (λ l. y ∷ l) found.2,
      ap (λ b. cond b (y ∷ filter p found.0) (filter p found.0)) passes ∙ (λ i. same i ∷ found.3 i),
      found.4,
    )

stands_in : {X : Type 0} (p : X → Bool) (xs front : List X) (x : X) (back : List X) → filter p xs ≡ front ++ x ∷ back
    → StandsIn p xs front x back
stands_in p [] front x back is = absurd (nothing_stands front x back is)
stands_in p (y ∷ xs) front x back is =
    stands_behind p y xs front x back (λ f e. stands_in p xs f x back e) (p y) refl is

module _ (causable suppressible : NameId → Bool) (keying : Keying) (keys : Value → Bool) where
  -- one change, made in all events
  abbrev IsMadeInAll : Change → List Event → List Event → List Event → Type 0
  IsMadeInAll change before part whole = Changes causable suppressible change before whole × (cut_events keying keys whole ≡ part)
      × ((others : Value → Bool) → ShareNoKey keys others → cut_events keying others whole ≡ cut_events keying others before)

  change_merges : (change : Change) (before part : List Event) → IsChangeOf keying keys change
      → Changes causable suppressible change (cut_events keying keys before) part
      → (whole : List Event) × IsMadeInAll change before part whole
  change_merges (Cause event) before part own made =
      let test = λ (e : Event). has_key keys (event_key keying e) in
      let pass : test event ≡ true = ap (has_key keys) own.1 ∙ own.2 in (
        before ++ event ∷ [],
        (
          (made.0, λ there. made.1 (Contains-filter test before event there pass), refl),
          filter-append test before (event ∷ []) ∙ ap (λ b. cut_events keying keys before ++ cond b (event ∷ []) []) pass ∙ sym made.2,
          λ others apart.
              let fail : has_key others (event_key keying event) ≡ false = ap (has_key others) own.1 ∙ apart own.0 own.2 in
              filter-append (λ (e : Event). has_key others (event_key keying e)) before (event ∷ [])
              ∙ ap (λ b. cut_events keying others before ++ cond b (event ∷ []) []) fail ∙ append-nil (cut_events keying others before),
        ),
      )
  change_merges (Suppress event) before part own made =
      let test = λ (e : Event). has_key keys (event_key keying e) in
      let found = stands_in test before made.1.front event made.1.back made.1.was in (
        found.0 ++ found.1,
        (
          (made.0, record { front = found.0; back = found.1; was = found.2; is = refl }),
          filter-append test found.0 found.1 ∙ (λ i. found.3 i ++ found.4 i) ∙ sym made.1.is,
          λ others apart.
              let other = λ (e : Event). has_key others (event_key keying e) in
              let fail : has_key others (event_key keying event) ≡ false = ap (has_key others) own.1 ∙ apart own.0 own.2 in
              filter-append other found.0 found.1
              ∙ ap (λ b. filter other found.0 ++ cond b (event ∷ filter other found.1) (filter other found.1)) (sym fail)
              ∙ sym (filter-append other found.0 (event ∷ found.1)) ∙ ap (cut_events keying others) (sym found.2),
        ),
      )

  changes_lead : (changes : List Change) (before part : List Event) → All (IsChangeOf keying keys) changes
      → Leads causable suppressible changes (cut_events keying keys before) part
      → (whole : List Event) × IsChangedForKeys causable suppressible keying keys changes before part whole
  changes_lead [] before part own leads = (before, record { leads = refl; own = sym leads; others = λ others apart. refl })
  changes_lead (change ∷ changes) before part own leads =
      let one = change_merges change before leads.0 (All-head (IsChangeOf keying keys) change changes own) leads.1 in
      let rest = changes_lead changes one.0 part (All-tail (IsChangeOf keying keys) change changes own)
      (subst (λ (events : List Event). Leads causable suppressible changes events part) (sym one.1.1) leads.2) in (
        rest.0,
        record {
          leads = (one.0, one.1.0, rest.1.leads);
          own = rest.1.own;
          others = λ others apart. rest.1.others others apart ∙ one.1.2 others apart;
        },
      )

pub changes_merge : ChangesMerge
changes_merge causable suppressible keying keys changes before part own leads = changes_lead causable suppressible keying keys changes before part own leads
