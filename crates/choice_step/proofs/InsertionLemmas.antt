-- That something is emitted, where inserted steps end.
use Rattle.choice_step.proofs.Vocabulary.{◌≡◌, ℕ, ◌<◌, ◌≤◌, Bool, true, false, List, [], ◌∷◌, ◌++◌, Option, None, Some, Contains, refl, sym, subst, inl, inr, length, ⊎_elim, ◌⊎◌, arith}
use Rattle.choice_step.proofs.Vocabulary.{cases_lt, false≢true, All-contains, All-from_recursion, AllByRecursion-from_contains, first_or_later, here, later, none_in_nil, HasNoRepeats, Event, Step}
use Rattle.choice_step.proofs.Vocabulary.{VarId, Formula, Record, StepRecord, Tick, time_of, StepKind, System, Inserted, NothingClashes, has_deadline, Plan, PendCanBeAsked, PendExists, AtNode}
use Rattle.choice_step.proofs.Vocabulary.{HasDeadline, NoneIsOver, Pend, node_of, PlansStand, CanAskRoots, Instance, ActedStep, is_inserted, steps_of, Follows, GoesOut, InsertsSteps, IsLeastDeadline}
use Rattle.choice_step.proofs.Vocabulary.{IsPassed, NoneIsPassed, StepGoesOut, AreDistinct, EntriesFall, IsMeasure, SomeDecision, SomeFollows, SomeInserts}
use Rattle.choice_step.proofs.EntryLemmas.{by_entries}
use Rattle.choice_step.proofs.UniquenessLemmas.{distinct_behind}

-- ---- the least deadline

module _ (plans : List Plan) where
  -- the instance has a deadline, which is the end of its window, or it has none
  deadline_or_none : (i : Instance) → HasDeadline plans i i.high ⊎ ((deadline : ℕ) → HasDeadline plans i deadline → ⊥)
  deadline_or_none i = by (node_of plans i)
    where
      of_node : (b : Bool) → ((b ≡ true) × (i.high ≡ i.high)) ⊎ ((deadline : ℕ) → (b ≡ true) × (i.high ≡ deadline) → ⊥)
      of_node true = inl (refl, refl)
      of_node false = inr (λ deadline is. false≢true is.0)

      by : (o : Option Plan) → AtNode o (λ node. (has_deadline node ≡ true) × (i.high ≡ i.high))
          ⊎ ((deadline : ℕ) → AtNode o (λ node. (has_deadline node ≡ true) × (i.high ≡ deadline)) → ⊥)
      by None = inr (λ deadline none. none)
      by (Some node) = of_node (has_deadline node)

  deadline_is_high : (i : Instance) (deadline : ℕ) → HasDeadline plans i deadline → i.high ≡ deadline
  deadline_is_high i deadline is = by (node_of plans i) is
    where
      by : (o : Option Plan) → AtNode o (λ node. (has_deadline node ≡ true) × (i.high ≡ deadline)) → i.high ≡ deadline
      by None none = absurd none
      by (Some node) is = is.1

  none_over : (pending : List Instance) (time : ℕ)
      → ((i : Instance) → Contains pending i → (deadline : ℕ) → HasDeadline plans i deadline → time ≤ deadline)
      → NoneIsOver plans pending time
  none_over pending time each =
      All-from_recursion (λ (i : Instance). (deadline : ℕ) → HasDeadline plans i deadline → time ≤ deadline) pending
      (AllByRecursion-from_contains (λ (i : Instance). (deadline : ℕ) → HasDeadline plans i deadline → time ≤ deadline) pending each)

  over_at : (pending : List Instance) (time : ℕ) → NoneIsOver plans pending time → (i : Instance) → Contains pending i
      → (deadline : ℕ) → HasDeadline plans i deadline → time ≤ deadline
  over_at pending time none i there =
      All-contains (λ (j : Instance). (deadline : ℕ) → HasDeadline plans j deadline → time ≤ deadline) pending i none there

  abbrev HasNone : List Instance → Type 0
  HasNone pending = (i : Instance) (deadline : ℕ) → Contains pending i → HasDeadline plans i deadline → ⊥

  abbrev HasLeast : List Instance → Type 0
  HasLeast pending = (deadline : ℕ) × IsLeastDeadline plans pending deadline

  -- an instance in front whose deadline is the least
  least_first : (i : Instance) (pending : List Instance) → HasDeadline plans i i.high
      → ((j : Instance) → Contains pending j → (deadline : ℕ) → HasDeadline plans j deadline → i.high ≤ deadline)
      → HasLeast (i ∷ pending)
  least_first i pending is others = (
    i.high,
    record {
      instance = i;
      there = here i pending;
      is = is;
      least = none_over (i ∷ pending) i.high (λ j there deadline of.
          ⊎_elim
          (λ (same : i ≡ j). let at = deadline_is_high i deadline (subst (λ k. HasDeadline plans k deadline) (sym same) of) in omega (arith, at))
          (λ behind. others j behind deadline of)
          (first_or_later j i pending there));
    },
  )

  -- one in front whose deadline is not lower changes nothing
  least_behind : (i : Instance) (pending : List Instance) (least : HasLeast pending)
      → ((deadline : ℕ) → HasDeadline plans i deadline → least.0 ≤ deadline) → HasLeast (i ∷ pending)
  least_behind i pending (deadline, least) front = (
    deadline,
    record {
      instance = least.instance;
      there = later least.instance i pending least.there;
      is = least.is;
      least = none_over (i ∷ pending) deadline (λ j there other of.
          ⊎_elim
          (λ (same : i ≡ j). front other (subst (λ k. HasDeadline plans k other) (sym same) of))
          (λ behind. over_at pending deadline least.least j behind other of)
          (first_or_later j i pending there));
    },
  )

  none_or_least : (pending : List Instance) → HasNone pending ⊎ HasLeast pending
  none_or_least [] = inl (λ i deadline there is. none_in_nil i there)
  none_or_least (i ∷ pending) =
      ⊎_elim
      (λ is. ⊎_elim
      (λ none. inr (least_first i pending is (λ j there deadline of. absurd (none j deadline there of))))
      (λ least. ⊎_elim
      (λ (before : i.high < least.0). inr (least_first i pending is (λ j there deadline of.
      let other = over_at pending least.0 least.1.least j there deadline of in omega (arith, before, other))))
      (λ (behind : least.0 ≤ i.high). inr (least_behind i pending least (λ deadline of. let at = deadline_is_high i deadline of in omega (arith, behind, at))))
      (cases_lt i.high least.0))
      (none_or_least pending))
      (λ no. ⊎_elim
      (λ none. inl (λ j deadline there of.
      ⊎_elim
      (λ (same : i ≡ j). no deadline (subst (λ k. HasDeadline plans k deadline) (sym same) of))
      (λ behind. none j deadline behind of)
      (first_or_later j i pending there)))
      (λ least. inr (least_behind i pending least (λ deadline of. absurd (no deadline of))))
      (none_or_least pending))
      (deadline_or_none i)

  -- no deadline is passed, or the least one is
  none_or_passed : (until : Option ℕ) (pending : List Instance) → NoneIsPassed plans pending until
      ⊎ ((deadline : ℕ) × IsLeastDeadline plans pending deadline × IsPassed until deadline)
  none_or_passed None pending =
      ⊎_elim
      (λ none. inl (λ i deadline there is passed. none i deadline there is))
      (λ least. inr (least.0, least.1, tt))
      (none_or_least pending)
  none_or_passed (Some time) pending =
      ⊎_elim
      (λ none. inl (λ i deadline there is passed. none i deadline there is))
      (λ least. ⊎_elim
      (λ (passed : least.0 < time). inr (least.0, least.1, passed))
      (λ (not_yet : time ≤ least.0). inl (λ i deadline there is passed.
      let after = over_at pending least.0 least.1.least i there deadline is in omega (arith, not_yet, after, passed)))
      (cases_lt least.0 time))
      (none_or_least pending)

-- ---- what is emitted

module _ (exists : PendExists) (asked : PendCanBeAsked) (some : SomeDecision) (guards : List (Formula × List VarId))
    (plans : List Plan) (width : ℕ) (measure : List Instance → List ℕ) (nothing : NothingClashes plans) (stand : PlansStand plans)
    (can : CanAskRoots guards plans) (is : IsMeasure plans width measure) where
  goes_out : (trace : List Step) (kind : StepKind) (time : ℕ) (events : List Event) → HasNoRepeats events
      → (o : ActedStep) × GoesOut plans trace kind time events o
  goes_out trace kind time events distinct =
      let pending = exists guards plans trace stand can in
      let done =
      some guards plans trace pending.0 (is_inserted kind) time events nothing can (asked guards plans trace pending.0 stand can pending.1) distinct
      in (
        record { kind = kind; step = record { time = time; events = done.1 }; actions = done.0 },
        record { pending = pending.0; pend = pending.1; kind_is = refl; time_is = refl; decided = done.2 },
      )

  -- what is inserted after a trace with these numbers of what it leaves pending
  abbrev InsertsFrom : (until : Option ℕ) → List ℕ → Type 0
  InsertsFrom until entries = (trace : List Step) (pending : List Instance) → Pend plans trace pending → measure pending ≡ entries
      → (out : List ActedStep) × InsertsSteps plans trace until out

  -- the numbers are lower after each inserted step
  inserts_at : (until : Option ℕ) (entries : List ℕ) → length entries ≡ width
      → ((after : List ℕ) → length after ≡ width → EntriesFall entries after → InsertsFrom until after) → InsertsFrom until entries
  inserts_at until entries wide lower trace pending pend same =
      ⊎_elim
      (λ none. ([], (pending, pend, none)))
      (λ next.
      let o = goes_out trace Inserted next.0 [] tt in
      let after = exists guards plans (trace ++ o.0.step ∷ []) stand can in
      let falls = is.falls trace pending after.0 next.0 o.0 pend next.1 o.1 after.1 in
      let rest = lower (measure after.0) (is.wide after.0) (subst (λ (l : List ℕ). EntriesFall l (measure after.0)) same falls)
      (trace ++ o.0.step ∷ []) after.0 after.1 refl in
      (o.0 ∷ rest.0, (next.0, (pending, pend, next.1), next.2, o.1, rest.1)))
      (none_or_passed plans until pending)

  inserts : (trace : List Step) (until : Option ℕ) → (out : List ActedStep) × InsertsSteps plans trace until out
  inserts trace until =
      let pending = exists guards plans trace stand can in
      by_entries width (InsertsFrom until) (inserts_at until) (measure pending.0) (is.wide pending.0) trace pending.0 pending.1 refl

  answer : (trace : List Step) (next : Record) (records : List Record) → AreDistinct (next ∷ records)
      → (out : List ActedStep) × StepGoesOut plans trace next out
  answer trace (StepRecord step) records distinct =
      let o = goes_out trace System step.time step.events distinct.0 in (o.0 ∷ [], (o.0, o.1, refl))
  answer trace (Tick time) records distinct = ([], refl)

  follows : (trace : List Step) (records : List Record) → AreDistinct records → (out : List ActedStep) × Follows plans trace records out
  follows trace [] distinct = ([], refl)
  follows trace (next ∷ records) distinct =
      let inserted = inserts trace (Some (time_of next)) in
      let own = answer (trace ++ steps_of inserted.0) next records distinct in
      let rest = follows (trace ++ steps_of (inserted.0 ++ own.0)) records (distinct_behind next records distinct) in
      ((inserted.0 ++ own.0) ++ rest.0, (inserted.0, own.0, rest.0, inserted.1, own.1, rest.1, refl))

pub some_inserts : PendExists → PendCanBeAsked → SomeDecision → SomeInserts
some_inserts exists asked some guards plans width measure trace until nothing stand can is =
    inserts exists asked some guards plans width measure nothing stand can is trace until

pub some_follows : PendExists → PendCanBeAsked → SomeDecision → SomeFollows
some_follows exists asked some guards plans width measure trace records nothing stand can is distinct =
    follows exists asked some guards plans width measure nothing stand can is trace records distinct
