-- What is emitted for records, and at the end, is justified: each step is decided after a trace that is ready for it.
use Rattle.enforcer_core.proofs.Vocabulary.{◌≡◌, ℕ, ◌<◌, ◌≤◌, List, [], ◌∷◌, ◌++◌, Option, None, Some, refl, sym, subst, append_assoc, arith, append-nil, All-contains, All-from_recursion, IsTrace}
use Rattle.enforcer_core.proofs.Vocabulary.{AllByRecursion-from_contains, HasNoRepeats, Event, Step, Record, NeverFall, StepRecord, Tick, recorded, time_of, StepKind, Inserted, System, Plan, Typed}
use Rattle.enforcer_core.proofs.Vocabulary.{WorkTogether, IsNeeded, HasDeadline, IsReady, NoneIsOver, Pend, PendCame, Instance, ActedStep, AllAreJustified, AreJustified, StepIsJustified, is_inserted}
use Rattle.enforcer_core.proofs.Vocabulary.{steps_of, Follows, GoesOut, InsertsSteps, IsPassed, StepGoesOut, steps_behind, justified_join, DecidedAreJustified, LeastDeadlineIsNeeded, AreDistinct}
use Rattle.enforcer_core.proofs.Vocabulary.{DecidedIsDistinct, DrainIsJustified, FollowsIsJustified, StepLaws}
use Rattle.enforcer_core.proofs.StepLemmas.{ready_behind}

-- ---- lists of what is justified

recorded_behind : (next : Record) (records : List Record) → recorded (next ∷ []) ++ recorded records ≡ recorded (next ∷ records)
recorded_behind (StepRecord step) records = refl
recorded_behind (Tick time) records = refl

distinct_first : (step : Step) (records : List Record) → AreDistinct (StepRecord step ∷ records) → HasNoRepeats step.events
distinct_first step records distinct = distinct.0

distinct_rest : (next : Record) (records : List Record) → AreDistinct (next ∷ records) → AreDistinct records
distinct_rest (StepRecord step) records distinct = distinct.1
distinct_rest (Tick time) records distinct = distinct

-- ---- after a trace that is ready

module _ (laws : StepLaws) (came : PendCame) (distinct_behind : DecidedIsDistinct) (decided : DecidedAreJustified)
    (needed : LeastDeadlineIsNeeded) (typed : Typed) (together : WorkTogether typed) where
  abbrev plans : List Plan
  plans = typed.plans

  -- by whatever is pending after it a trace is ready for a clock
  record Stood (trace : List Step) (clock : ℕ) : Type 0 where
    is_trace : IsTrace trace
    ready : (pending : List Instance) → Pend plans trace pending → IsReady plans trace clock

  none_over : (trace : List Step) (clock : ℕ) → Stood trace clock → (pending : List Instance) → Pend plans trace pending
      → NoneIsOver plans pending clock
  none_over trace clock stood pending pend =
      let ready = stood.ready pending pend in
      subst (λ (l : List Instance). NoneIsOver plans l clock) (laws.pending plans trace ready.pending pending ready.pend pend) ready.in_time

  -- at a later clock, where no deadline is below it
  later_on : (trace : List Step) (clock later : ℕ) → clock ≤ later → Stood trace clock
      → ((pending : List Instance) → Pend plans trace pending → NoneIsOver plans pending later) → Stood trace later
  later_on trace clock later le stood over = record {
    is_trace = stood.is_trace;
    ready = λ pending pend. let ready = stood.ready pending pend in let last = ready.not_later in record {
      clean = ready.clean;
      pending = pending;
      pend = pend;
      in_time = over pending pend;
      not_later = omega (arith, last, le);
    };
  }

  -- with a step that is decided at the clock
  with_one : (trace : List Step) (kind : StepKind) (time : ℕ) (events : List Event) (o : ActedStep) → Stood trace time
      → HasNoRepeats events → GoesOut plans trace kind time events o → Stood (trace ++ o.step ∷ []) time
  with_one trace kind time events o stood distinct goes =
      let ready = stood.ready goes.pending goes.pend in
      let last = ready.not_later in let at = goes.time_is in record {
        is_trace = laws.grows trace o.step stood.is_trace (omega (arith, last, at))
            (distinct_behind plans trace goes.pending (is_inserted kind) time events o.actions o.step.events distinct goes.decided);
        ready = λ after pend_after.
            let from = came plans trace o.step after pend_after in
            let over = none_over trace time stood from.0 from.1 in
            ready_behind laws plans trace kind time events o goes from.0 from.1 time time ready (laws.windows typed trace from.0 together from.1) over (omega arith) after pend_after
            (subst (NoneIsOver plans after) goes.time_is
            (laws.none_over typed trace o.step from.0 after together from.2 (subst (NoneIsOver plans from.0) (sym goes.time_is) over)));
      }

  -- the actions of a step that is decided at the clock
  actions_are : (trace : List Step) (kind : StepKind) (time : ℕ) (events : List Event) (o : ActedStep) → Stood trace time
      → HasNoRepeats events → GoesOut plans trace kind time events o → AreJustified plans trace kind time events o.actions
  actions_are trace kind time events o stood distinct goes =
      decided typed.guards plans trace kind time goes.pending events o.actions o.step.events together.formed stood.is_trace
      (stood.ready goes.pending goes.pend) goes.pend distinct goes.decided

  -- ---- inserted steps

  -- steps that are inserted are justified, and the trace with them is ready for a time up to which deadlines are passed
  record AreInserted (trace : List Step) (clock : ℕ) (until : Option ℕ) (out : List ActedStep) : Type 0 where
    justified : AllAreJustified plans trace [] out
    behind_them : (time : ℕ) → until ≡ Some time → clock ≤ time → Stood (trace ++ steps_of out) time

  none_inserted : (trace : List Step) (clock : ℕ) (until : Option ℕ) → Stood trace clock → InsertsSteps plans trace until []
      → AreInserted trace clock until []
  none_inserted trace clock until stood (pending, pend, none) = record {
    justified = refl;
    behind_them = λ time same le. subst (λ (steps : List Step). Stood steps time) (sym (append-nil trace))
        (later_on trace clock time le stood (λ others pend_others.
        subst (λ (l : List Instance). NoneIsOver plans l time) (laws.pending plans trace pending others pend pend_others)
        (All-from_recursion (λ (i : Instance). (deadline : ℕ) → HasDeadline plans i deadline → time ≤ deadline) pending
        (AllByRecursion-from_contains (λ (i : Instance). (deadline : ℕ) → HasDeadline plans i deadline → time ≤ deadline) pending
        (λ i there deadline has.
        let not_passed : deadline < time → ⊥ = λ less. none i deadline there has (subst (λ (u : Option ℕ). IsPassed u deadline) (sym same) less) in
        omega (arith, not_passed))))));
  }

  inserted : (out : List ActedStep) (trace : List Step) (clock : ℕ) (until : Option ℕ) → Stood trace clock
      → InsertsSteps plans trace until out → AreInserted trace clock until out
  inserted [] trace clock until stood inserts = none_inserted trace clock until stood inserts
  inserted (o ∷ out) trace clock until stood (deadline, (pending, pend, least), passed, goes, rest) =
      let le : clock ≤ deadline =
      All-contains (λ (i : Instance). (d : ℕ) → HasDeadline plans i d → clock ≤ d) pending least.instance (none_over trace clock stood pending pend) least.there deadline least.is in
      let then : Stood trace deadline = later_on trace clock deadline le stood (λ others pend_others.
      subst (λ (l : List Instance). NoneIsOver plans l deadline) (laws.pending plans trace pending others pend pend_others) least.least) in
      let more : AreInserted (trace ++ o.step ∷ []) deadline until out =
      inserted out (trace ++ o.step ∷ []) deadline until (with_one trace Inserted deadline [] o then tt goes) rest in record {
        justified = subst (λ (kind : StepKind). StepIsJustified plans trace kind [] o (λ left. AllAreJustified plans (trace ++ o.step ∷ []) left out)) (sym goes.kind_is) (
          subst (IsNeeded plans trace) (sym goes.time_is)
              (needed typed.guards plans trace deadline pending together.formed stood.is_trace (then.ready pending pend) pend least),
          subst (λ (time : ℕ). AreJustified plans trace Inserted time [] o.actions) (sym goes.time_is) (actions_are trace Inserted deadline [] o then tt goes),
          more.justified,
        );
        behind_them = λ time same later.
            subst (λ (steps : List Step). Stood steps time) (append_assoc trace (o.step ∷ []) (steps_of out))
            (more.behind_them time same
            (let less : deadline < time = subst (λ (u : Option ℕ). IsPassed u deadline) same passed in omega (arith, less)));
      }

  -- ---- records

  answered : (trace : List Step) (next : Record) (records : List Record) (out : List ActedStep) → Stood trace (time_of next)
      → AreDistinct (next ∷ records) → StepGoesOut plans trace next out
      → AllAreJustified plans trace (recorded (next ∷ [])) out × Stood (trace ++ steps_of out) (time_of next)
  answered trace (StepRecord step) records out stood distinct (o, goes, is) =
      subst (λ (l : List ActedStep). AllAreJustified plans trace (step ∷ []) l × Stood (trace ++ steps_of l) step.time) (sym is) (
        subst (λ (kind : StepKind). StepIsJustified plans trace kind (step ∷ []) o (λ left. AllAreJustified plans (trace ++ o.step ∷ []) left [])) (sym goes.kind_is)
            (actions_are trace System step.time step.events o stood (distinct_first step records distinct) goes, refl),
        with_one trace System step.time step.events o stood (distinct_first step records distinct) goes,
      )
  answered trace (Tick time) records out stood distinct is =
      subst (λ (l : List ActedStep). AllAreJustified plans trace [] l × Stood (trace ++ steps_of l) time) (sym is)
      (refl, subst (λ (steps : List Step). Stood steps time) (sym (append-nil trace)) stood)

  follows : (records : List Record) (trace : List Step) (clock : ℕ) (out : List ActedStep) → Stood trace clock
      → NeverFall clock records → AreDistinct records → Follows plans trace records out
      → AllAreJustified plans trace (recorded records) out
  follows [] trace clock out stood rising distinct none =
      subst (λ (l : List ActedStep). AllAreJustified plans trace [] l) (sym none) refl
  follows (next ∷ records) trace clock out stood rising distinct (first, answer, rest, inserts, answers, then, are) =
      let i : AreInserted trace clock (Some (time_of next)) first = inserted first trace clock (Some (time_of next)) stood inserts in
      let own = answered (trace ++ steps_of first) next records answer (i.behind_them (time_of next) refl rising.0) distinct answers in
      let more : AllAreJustified plans (trace ++ steps_of (first ++ answer)) (recorded records) rest =
      follows records (trace ++ steps_of (first ++ answer)) (time_of next) rest
      (subst (λ (steps : List Step). Stood steps (time_of next)) (steps_behind trace first answer) own.1) rising.1 (distinct_rest next records distinct) then in
      subst (λ (l : List ActedStep). AllAreJustified plans trace (recorded (next ∷ records)) l) (sym are)
      (subst (λ (steps : List Step). AllAreJustified plans trace steps ((first ++ answer) ++ rest)) (recorded_behind next records)
      (justified_join plans trace (recorded (next ∷ [])) (recorded records) (first ++ answer) rest
      (justified_join plans trace [] (recorded (next ∷ [])) first answer i.justified own.0) more))

pub follows_is_justified : StepLaws → PendCame → DecidedIsDistinct → DecidedAreJustified → LeastDeadlineIsNeeded → FollowsIsJustified
follows_is_justified laws came distinct_behind decided needed typed trace clock records out together is_trace ready rising distinct goes =
    follows laws came distinct_behind decided needed typed together records trace clock out (record { is_trace = is_trace; ready = λ pending pend. ready }) rising distinct goes

pub drain_is_justified : StepLaws → PendCame → DecidedIsDistinct → DecidedAreJustified → LeastDeadlineIsNeeded → DrainIsJustified
drain_is_justified laws came distinct_behind decided needed typed trace clock out together is_trace ready drains =
    (inserted laws came distinct_behind decided needed typed together out trace clock None (record { is_trace = is_trace; ready = λ pending pend. ready }) drains).justified
