-- A lawful system is left alone: what is justified is owed and lost, and where the plans are transparent nothing that is
-- owed is lost.
use Rattle.enforcer_core.proofs.Vocabulary.{◌≡◌, ℕ, ◌+◌, ◌<◌, ◌≤◌, IsTrue, false, List, [], ◌∷◌, ◌++◌, length, refl, sym, ap, subst, ◌∙◌, append_assoc, arith, length-append, ⊎_elim, Some}
use Rattle.enforcer_core.proofs.Vocabulary.{AllByRecursion, AllZip, append-nil, All-from_recursion, recursion_from_All, IsTrace, AllByRecursion-weaker, Valuation, no_values, Event, Step, VarId}
use Rattle.enforcer_core.proofs.Vocabulary.{Formula, Sat, Continuation, last_time, Good, Satisfies, Record, NeverFall, StepRecord, Tick, clock_after, recorded, time_of, GoodFromEarlier}
use Rattle.enforcer_core.proofs.Vocabulary.{GoodFromLonger, LastIsTheNew, SatisfyingIsGood, TraceGrows, StepKind, Inserted, System, IsLost, Plan, node_in, AreWellFormed, DeadlinesAreNotLost}
use Rattle.enforcer_core.proofs.Vocabulary.{OwedNodesAreNotLost, RootsAreNotLost, is_transparent, PlanMeans, PolicyKeepsMeaning, WorkTogether, typed_of, IsNeeded, IsReady, Action, Decides, ActedStep}
use Rattle.enforcer_core.proofs.Vocabulary.{as_it_came, untouched, AllAreJustified, AreJustified, StepIsJustified, steps_of, Follows, FollowsDrain, GoesOut, AreDistinct, Enforcing, enforcer_plans}
use Rattle.enforcer_core.proofs.Vocabulary.{acted_steps, formulas_for, FollowsDrainFrom, FollowsFrom, Stands, DrainsNothing, LeavesAlone, DrainIsJustified, FollowsIsJustified, FollowsAlone}
use Rattle.enforcer_core.proofs.Vocabulary.{NothingDrains, CourseIsTransparent, CourseIsTransparentToEnd}
use Rattle.enforcer_core.proofs.CourseLemmas.{same_plans}

-- ---- times

recorded_later : (clock : ℕ) (records : List Record) → NeverFall clock records → AllByRecursion (λ (s : Step). clock ≤ s.time) (recorded records)
recorded_later clock [] rising = tt
recorded_later clock (StepRecord step ∷ records) (later, rising) =
    (later, AllByRecursion-weaker (λ (s : Step). step.time ≤ s.time) (λ (s : Step). clock ≤ s.time) (recorded records) (λ s le. omega (arith, later, le)) (recorded_later step.time records rising))
recorded_later clock (Tick time ∷ records) (later, rising) =
    AllByRecursion-weaker (λ (s : Step). time ≤ s.time) (λ (s : Step). clock ≤ s.time) (recorded records) (λ s le. omega (arith, later, le)) (recorded_later time records rising)

clock_rises : (clock : ℕ) (records : List Record) → NeverFall clock records → clock ≤ clock_after clock records
clock_rises clock [] rising = omega arith
clock_rises clock (next ∷ records) (later, rising) = let le = clock_rises (time_of next) records rising in omega (arith, later, le)

-- ---- where nothing that is owed is lost

module _ (earlier : GoodFromEarlier) (longer : GoodFromLonger) (roots : RootsAreNotLost) (owed : OwedNodesAreNotLost)
    (deadlines : DeadlinesAreNotLost) (guards : List (Formula × List VarId)) (plans : List Plan)
    (formed : AreWellFormed plans guards) (mark : IsTrue (is_transparent plans)) where
  abbrev IsGood : List Step → ℕ → Type 0
  IsGood = Good (formulas_for plans)

  -- the front of a trace that can be continued well, from a time on that no step after it is below
  front_is_good : (trace more : List Step) (clock later : ℕ) → AllByRecursion (λ (s : Step). clock ≤ s.time) more → clock ≤ later
      → IsGood (trace ++ more) later → IsGood trace clock
  front_is_good trace more clock later from le good =
      longer (formulas_for plans) trace more clock
      (λ i below. All-from_recursion (λ (s : Step). clock ≤ s.time) more from i (record { time = 0; events = [] }) below)
      (earlier (formulas_for plans) (trace ++ more) later clock le good)

  no_action : (trace : List Step) (step : Step) → IsGood (trace ++ step ∷ []) step.time → (actions : List Action)
      → AreJustified plans trace System step.time step.events actions → actions ≡ []
  no_action trace step good [] none = refl
  no_action trace step good (action ∷ actions) (j, rest) =
      let count : length (trace ++ step ∷ []) ≡ length trace + 1 = length-append trace (step ∷ []) in
      absurd (⊎_elim
      (λ root. roots guards plans (trace ++ step ∷ []) step.time action.rule j.node (length trace) formed good
      (subst (λ (number : ℕ). node_in plans action.rule number ≡ Some j.node) root.0 j.named) (omega (arith, count))
      (subst (λ (position : ℕ). IsLost (trace ++ step ∷ []) step.time j.node no_values position) root.1
      (subst (λ (v : Valuation). IsLost (trace ++ step ∷ []) step.time j.node v action.origin) root.2 j.lost)))
      (λ begun. owed guards plans (trace ++ step ∷ []) step.time action.rule j.node action.valuation action.origin formed mark good begun.0 j.owed j.lost)
      j.begun)

  not_needed : (trace : List Step) (time : ℕ) → IsGood trace (time + 1) → IsNeeded plans trace time → ⊥
  not_needed trace time good n =
      deadlines guards plans trace (time + 1) n.rule n.node n.valuation n.origin formed mark good n.deadline n.owed n.lost

  -- the first of what is emitted is not inserted
  not_inserted : (trace : List Step) (kind : StepKind) (given : List Step) (o : ActedStep) (Then : List Step → Type 0) → kind ≡ Inserted
      → IsGood trace (o.step.time + 1) → StepIsJustified plans trace kind given o Then → ⊥
  not_inserted trace Inserted given o Then is good j = not_needed trace o.step.time good j.0
  not_inserted trace System given o Then is good j = cc

  -- ---- records

  acted_same : (kind kind' : StepKind) (step step' : Step) (actions actions' : List Action) → kind ≡ kind' → step ≡ step' → actions ≡ actions'
      → ◌≡◌ {A = ActedStep} (record { kind = kind; step = step; actions = actions }) (record { kind = kind'; step = step'; actions = actions' })
  acted_same kind kind' step step' actions actions' k s a = λ i. record { kind = k i; step = s i; actions = a i }

  step_same : (time time' : ℕ) (events events' : List Event) → time ≡ time' → events ≡ events'
      → ◌≡◌ {A = Step} (record { time = time; events = events }) (record { time = time'; events = events' })
  step_same time time' events events' t e = λ i. record { time = t i; events = e i }

  -- where nothing is inserted for a step record
  alone_step : (step : Step) (records : List Record) (trace : List Step) (out rest : List ActedStep) (o : ActedStep)
      → NeverFall step.time records → GoesOut plans trace System step.time step.events o
      → Follows plans (trace ++ o.step ∷ []) records rest → out ≡ o ∷ rest
      → AllAreJustified plans trace (step ∷ recorded records) out
      → IsGood (trace ++ step ∷ recorded records) (clock_after step.time records)
      → (Follows plans (trace ++ step ∷ []) records rest → AllAreJustified plans (trace ++ step ∷ []) (recorded records) rest
      → IsGood ((trace ++ step ∷ []) ++ recorded records) (clock_after step.time records) → rest ≡ untouched (recorded records))
      → out ≡ as_it_came step ∷ untouched (recorded records)
  alone_step step records trace out rest o rising goes then are j good others =
      let parts : StepIsJustified plans trace System (step ∷ recorded records) o (λ left. AllAreJustified plans (trace ++ o.step ∷ []) left rest) =
      subst (λ (k : StepKind). StepIsJustified plans trace k (step ∷ recorded records) o (λ left. AllAreJustified plans (trace ++ o.step ∷ []) left rest)) goes.kind_is
      (subst (AllAreJustified plans trace (step ∷ recorded records)) are j) in
      let good' : IsGood ((trace ++ step ∷ []) ++ recorded records) (clock_after step.time records) =
      subst (λ (steps : List Step). IsGood steps (clock_after step.time records)) (sym (append_assoc trace (step ∷ []) (recorded records))) good in
      let none : o.actions ≡ [] = no_action trace step
      (front_is_good (trace ++ step ∷ []) (recorded records) step.time (clock_after step.time records) (recorded_later step.time records rising) (clock_rises step.time records rising) good')
      o.actions parts.0 in
      let decided : Decides plans trace goes.pending false step.time step.events [] o.step.events =
      subst (λ (actions : List Action). Decides plans trace goes.pending false step.time step.events actions o.step.events) none goes.decided in
      let same : o.step ≡ step = step_same o.step.time step.time o.step.events step.events goes.time_is decided.0 in
      let rest_is : rest ≡ untouched (recorded records) =
      others (subst (λ (s : Step). Follows plans (trace ++ s ∷ []) records rest) same then)
      (subst (λ (s : Step). AllAreJustified plans (trace ++ s ∷ []) (recorded records) rest) same parts.1) good' in
      are ∙ ap (λ (first : ActedStep). first ∷ rest) (acted_same o.kind System o.step step o.actions [] goes.kind_is same none)
      ∙ ap (λ (others : List ActedStep). as_it_came step ∷ others) rest_is

  -- nothing is inserted in front of a record
  none_first : (next : Record) (records : List Record) (trace : List Step) (out others : List ActedStep) (o : ActedStep) (deadline : ℕ)
      → NeverFall (time_of next) records → deadline < time_of next → GoesOut plans trace Inserted deadline [] o → out ≡ o ∷ others
      → AllAreJustified plans trace (recorded (next ∷ records)) out
      → IsGood (trace ++ recorded (next ∷ records)) (clock_after (time_of next) records) → ⊥
  none_first next records trace out others o deadline rising before goes are j good =
      let at = goes.time_is in
      let le = clock_rises (time_of next) records rising in
      not_inserted trace o.kind (recorded (next ∷ records)) o (λ left. AllAreJustified plans (trace ++ o.step ∷ []) left others) goes.kind_is
      (front_is_good trace (recorded (next ∷ records)) (o.step.time + 1) (clock_after (time_of next) records)
      (AllByRecursion-weaker (λ (s : Step). time_of next ≤ s.time) (λ (s : Step). o.step.time + 1 ≤ s.time) (recorded (next ∷ records)) (λ s from. omega (arith, from, before, at))
      (recorded_later (time_of next) (next ∷ records) (omega arith, rising)))
      (omega (arith, le, before, at)) good)
      (subst (AllAreJustified plans trace (recorded (next ∷ records))) are j)

  pub alone : (records : List Record) (trace : List Step) (clock : ℕ) (out : List ActedStep) → NeverFall clock records
      → Follows plans trace records out → AllAreJustified plans trace (recorded records) out
      → IsGood (trace ++ recorded records) (clock_after clock records) → out ≡ untouched (recorded records)
  alone [] trace clock out rising none j good = none
  alone (StepRecord step ∷ records) trace clock out rising ([], answer, rest, inserts, (o, goes, is), then, are) j good =
      alone_step step records trace out rest o rising.1
      (subst (λ (steps : List Step). GoesOut plans steps System step.time step.events o) (append-nil trace) goes)
      (subst (λ (l : List ActedStep). Follows plans (trace ++ steps_of l) records rest) is then)
      (are ∙ ap (λ (l : List ActedStep). l ++ rest) is) j good
      (λ follows justified good'. alone records (trace ++ step ∷ []) step.time rest rising.1 follows justified good')
  alone (Tick time ∷ records) trace clock out rising ([], answer, rest, inserts, is, then, are) j good =
      let same : out ≡ rest = are ∙ ap (λ (l : List ActedStep). l ++ rest) is in
      same ∙ alone records trace time rest rising.1
      (subst (λ (steps : List Step). Follows plans steps records rest) (append-nil trace) (subst (λ (l : List ActedStep). Follows plans (trace ++ steps_of l) records rest) is then))
      (subst (AllAreJustified plans trace (recorded records)) same j) good
  alone (StepRecord step ∷ records) trace clock out rising (o ∷ first, answer, rest, (deadline, least, passed, goes, more), answers, then, are) j good =
      absurd (none_first (StepRecord step) records trace out ((first ++ answer) ++ rest) o deadline rising.1 passed goes are j good)
  alone (Tick time ∷ records) trace clock out rising (o ∷ first, answer, rest, (deadline, least, passed, goes, more), answers, then, are) j good =
      absurd (none_first (Tick time) records trace out ((first ++ answer) ++ rest) o deadline rising.1 passed goes are j good)

  -- ---- the end

  pub none_drains : (trace : List Step) (out : List ActedStep) → ((time : ℕ) → IsGood trace time) → AllAreJustified plans trace [] out → out ≡ []
  none_drains trace [] good j = refl
  none_drains trace (o ∷ out) good j = absurd (of_kind o.kind j)
    where
      of_kind : (kind : StepKind) → StepIsJustified plans trace kind [] o (λ left. AllAreJustified plans (trace ++ o.step ∷ []) left out) → ⊥
      of_kind Inserted parts = not_needed trace o.step.time (good (o.step.time + 1)) parts.0
      of_kind System none = none

pub follows_alone : FollowsIsJustified → GoodFromEarlier → GoodFromLonger → RootsAreNotLost → OwedNodesAreNotLost → DeadlinesAreNotLost → FollowsAlone
follows_alone justified earlier longer roots owed deadlines typed trace clock records out together mark is_trace ready rising distinct follows good =
    alone earlier longer roots owed deadlines typed.guards typed.plans together.formed mark records trace clock out rising follows
    (justified typed trace clock records out together is_trace ready rising distinct follows) good

pub nothing_drains : DrainIsJustified → SatisfyingIsGood → GoodFromEarlier → GoodFromLonger → RootsAreNotLost → OwedNodesAreNotLost → DeadlinesAreNotLost
    → NothingDrains
nothing_drains justified satisfying earlier longer roots owed deadlines typed trace clock out together mark is_trace ready drains satisfied =
    none_drains earlier longer roots owed deadlines typed.guards typed.plans together.formed mark trace out
    (λ time. satisfying (formulas_for typed.plans) trace time is_trace satisfied)
    (justified typed trace clock out together is_trace ready drains)

-- ---- in the words of a policy

meant_back : (policy : List Formula) (plans : List Plan) (trace : List Step) → AllZip PlanMeans policy plans
    → AllByRecursion (λ rule. (i : ℕ) → i < length trace → Sat trace i no_values rule) policy
    → AllByRecursion (λ rule. (i : ℕ) → i < length trace → Sat trace i no_values rule) (formulas_for plans)
meant_back policy [] trace same each = tt
meant_back [] (plan ∷ plans) trace same each = absurd same
meant_back (f ∷ policy) (plan ∷ plans) trace same each =
    ((λ i within. (same.0 trace i no_values).1 (each.0 i within)), meant_back policy plans trace same.1 each.1)

satisfies_back : (policy : List Formula) (plans : List Plan) (trace : List Step) → AllZip PlanMeans policy plans
    → Satisfies trace policy → Satisfies trace (formulas_for plans)
satisfies_back policy plans trace same satisfied =
    All-from_recursion (λ rule. (i : ℕ) → i < length trace → Sat trace i no_values rule) (formulas_for plans)
    (meant_back policy plans trace same
    (recursion_from_All (λ rule. (i : ℕ) → i < length trace → Sat trace i no_values rule) policy satisfied))

-- ---- of what an enforcer did

recorded_is_trace : TraceGrows → LastIsTheNew → (records : List Record) (trace : List Step) (clock : ℕ) → IsTrace trace → last_time trace ≤ clock
    → NeverFall clock records → AreDistinct records → IsTrace (trace ++ recorded records)
recorded_is_trace grows newest [] trace clock is_trace last rising distinct = subst IsTrace (sym (append-nil trace)) is_trace
recorded_is_trace grows newest (StepRecord step ∷ records) trace clock is_trace last (later, rising) (first, distinct) =
    let new = newest trace step in
    subst IsTrace (append_assoc trace (step ∷ []) (recorded records))
    (recorded_is_trace grows newest records (trace ++ step ∷ []) step.time (grows trace step is_trace (omega (arith, last, later)) first) (omega (arith, new)) rising distinct)
recorded_is_trace grows newest (Tick time ∷ records) trace clock is_trace last (later, rising) distinct =
    recorded_is_trace grows newest records trace time is_trace (omega (arith, last, later)) rising distinct

steps_untouched : (steps : List Step) → steps_of (untouched steps) ≡ steps
steps_untouched [] = refl
steps_untouched (step ∷ steps) = ap (λ (others : List Step). step ∷ others) (steps_untouched steps)

pub course_is_transparent : PolicyKeepsMeaning → FollowsAlone → CourseIsTransparent
course_is_transparent keeps alone entries policy guards start trace records out now planned together mark distinct c (longer, continued, satisfied) =
    alone (typed_of start.policy) trace start.clock records out together mark c.began.is_trace c.began.ready c.in_time distinct c.decided (
      longer,
      subst (λ (clock : ℕ). Continuation (trace ++ recorded records) clock longer) c.clock continued,
      satisfies_back policy (enforcer_plans start) longer (keeps entries policy (enforcer_plans start) guards planned) satisfied,
    )

pub course_is_transparent_to_end : TraceGrows → LastIsTheNew → SatisfyingIsGood → PolicyKeepsMeaning → FollowsAlone → NothingDrains → CourseIsTransparentToEnd
course_is_transparent_to_end grows newest satisfying keeps alone none entries policy guards start trace records out now made planned together mark distinct c drained satisfied =
    let is_trace : IsTrace (trace ++ recorded records) =
    recorded_is_trace grows newest records trace start.clock c.began.is_trace c.began.ready.not_later c.in_time distinct in
    let are : out ≡ untouched (recorded records) =
    course_is_transparent keeps alone entries policy guards start trace records out now planned together mark distinct c
    (satisfying policy (trace ++ recorded records) now.clock is_trace satisfied) in
    let stands : Stands now (trace ++ recorded records) =
    subst (λ (steps : List Step). Stands now (trace ++ steps)) (ap steps_of are ∙ steps_untouched (recorded records)) c.stands in
    let plans_are : enforcer_plans now ≡ enforcer_plans start = same_plans start trace records out now c in
    let nothing : acted_steps made.steps ≡ [] =
    none (typed_of start.policy) (trace ++ recorded records) now.clock (acted_steps made.steps) together mark is_trace
    (subst (λ (plans : List Plan). IsReady plans (trace ++ recorded records) now.clock) plans_are stands.ready)
    (subst (λ (plans : List Plan). FollowsDrain plans (trace ++ recorded records) (acted_steps made.steps)) plans_are (drained (trace ++ recorded records) stands))
    (satisfies_back policy (enforcer_plans start) (trace ++ recorded records) (keeps entries policy (enforcer_plans start) guards planned) satisfied) in
    ap (λ (more : List ActedStep). out ++ more) nothing ∙ append-nil out ∙ are

-- ---- of one call

pub records_alone : FollowsAlone → (e : Enforcing) → WorkTogether (typed_of e.policy) → (next : Record) → e.clock ≤ time_of next
    → AreDistinct (next ∷ []) → (out : List ActedStep) → FollowsFrom e (next ∷ []) out → LeavesAlone e (next ∷ []) (time_of next) out
records_alone alone e together next later distinct out follows trace stands mark good =
    alone (typed_of e.policy) trace e.clock (next ∷ []) out together mark stands.is_trace stands.ready (later, tt) distinct (follows trace stands) good

pub drain_alone : NothingDrains → (e : Enforcing) → WorkTogether (typed_of e.policy) → (out : List ActedStep) → FollowsDrainFrom e out → DrainsNothing e out
drain_alone none e together out drains trace stands mark satisfied =
    none (typed_of e.policy) trace e.clock out together mark stands.is_trace stands.ready (drains trace stands) satisfied
