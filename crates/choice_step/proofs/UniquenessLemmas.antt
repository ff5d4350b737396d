-- The rules leave no choice: what is done at a step, and what is emitted.
use Rattle.choice_step.proofs.Vocabulary.{◌≡◌, ℕ, ◌≤◌, Bool, List, [], ◌∷◌, ◌++◌, Option, None, Some, length, Contains, refl, sym, subst, ap, ◌∙◌, ⊎_elim, arith, length-append, slice_index_or}
use Rattle.choice_step.proofs.Vocabulary.{AllByRecursion, All-contains, Contains-append_right, no_step, step_at, here, HasNoRepeats-push, HasNoRepeats, no_values, Event, Step, nil_not_cons}
use Rattle.choice_step.proofs.Vocabulary.{without_middle, Record, StepRecord, Tick, time_of, StepKind, System, Inserted, Plan, time_now, last_position, MissingIsOne, MissingOfIsOne, PendIsOne}
use Rattle.choice_step.proofs.Vocabulary.{HasDeadline, Instance, Literal, LiteralKind, Cause, Suppress, Applies, ActedStep, is_inserted, steps_of, StepGoesOut, Follows, GoesOut, InsertsSteps}
use Rattle.choice_step.proofs.Vocabulary.{IsLeastDeadline, Candidate, Decides, IsFirstMissing, CandidateMisses, MissesNothing, Root, Waiting, action_for, all_asked, is_forced, trace_with_step}
use Rattle.choice_step.proofs.Vocabulary.{AreDistinct, DecidedIsDistinct, DecidedMissesNothing, DecidesIsOne, DrainIsOne, FollowsIsOne, Action}
use Rattle.choice_step.proofs.WantedActionLemmas.{IsWanted, WantedAs, missing_are_wanted, missing_of_are_wanted}

-- ---- lists

first_is : {X : Type 0} (x y : X) (xs ys : List X) → x ∷ xs ≡ y ∷ ys → x ≡ y
first_is x y xs ys same = ap (λ l. slice_index_or l 0 x) same

-- there is one way to take an item out of a list without repeats
taken_is_one : {X : Type 0} (front other back behind : List X) (x : X) → front ++ x ∷ back ≡ other ++ x ∷ behind
    → HasNoRepeats (front ++ x ∷ back) → front ++ back ≡ other ++ behind
taken_is_one [] [] back behind x same distinct = cc
taken_is_one [] (y ∷ other) back behind x same distinct =
    let rest : back ≡ other ++ x ∷ behind = cc in
    absurd (distinct.0 (subst (λ l. Contains l x) (sym rest) (Contains-append_right other (x ∷ behind) x (here x behind))))
taken_is_one (y ∷ front) [] back behind x same distinct =
    let is : x ≡ y = cc in
    absurd (distinct.0 (subst (Contains (front ++ x ∷ back)) is (Contains-append_right front (x ∷ back) x (here x back))))
taken_is_one (y ∷ front) (z ∷ other) back behind x same distinct =
    let is : y ≡ z = cc in
    let rest : front ++ x ∷ back ≡ other ++ x ∷ behind = cc in
    let e = taken_is_one front other back behind x rest distinct.1 in
    λ i. is i ∷ e i

at_end : (trace : List Step) (step : Step) → slice_index_or (trace ++ step ∷ []) (length trace) no_step ≡ step
at_end [] step = refl
at_end (first ∷ trace) step = at_end trace step

pub last_step : (trace : List Step) (step : Step) → step_at (trace ++ step ∷ []) (last_position (trace ++ step ∷ [])) ≡ step
last_step trace step =
    let last : length trace ≡ last_position (trace ++ step ∷ []) = omega (arith, length-append trace (step ∷ [])) in
    subst (λ n. slice_index_or (trace ++ step ∷ []) n no_step ≡ step) last (at_end trace step)

-- ---- one step

module _ (missing_one : MissingIsOne) (missing_of_one : MissingOfIsOne) where
  misses_one : (plans : List Plan) (inserted : Bool) (trace : List Step) (asked : Candidate) (literals others : List Literal)
      → CandidateMisses plans inserted trace asked literals → CandidateMisses plans inserted trace asked others → literals ≡ others
  misses_one plans inserted trace (Waiting i) literals others first second =
      missing_of_one plans trace i (is_forced inserted (time_now trace) i) literals others first second
  misses_one plans inserted trace (Root rule plan) literals others first second =
      missing_one trace plan no_values literals others first second

  first_one : (plans : List Plan) (inserted : Bool) (trace : List Step) (all : List Candidate) (a b : Candidate) (l m : Literal)
      → IsFirstMissing plans inserted trace all a l → IsFirstMissing plans inserted trace all b m → (a ≡ b) × (l ≡ m)
  first_one plans inserted trace [] a b l m first second = absurd first
  first_one plans inserted trace (next ∷ others) a b l m first second =
      ⊎_elim
      (λ p. ⊎_elim
      (λ q. (sym p.0 ∙ q.0, first_is l m p.1 q.1 (misses_one plans inserted trace next (l ∷ p.1) (m ∷ q.1) p.2 q.2)))
      (λ q. absurd (nil_not_cons l p.1 (misses_one plans inserted trace next [] (l ∷ p.1) q.0 p.2)))
      second)
      (λ p. ⊎_elim
      (λ q. absurd (nil_not_cons m q.1 (misses_one plans inserted trace next [] (m ∷ q.1) p.0 q.2)))
      (λ q. first_one plans inserted trace others a b l m p.1 q.1)
      second)
      first

  none_or_first : (plans : List Plan) (inserted : Bool) (trace : List Step) (all : List Candidate) (a : Candidate) (l : Literal)
      → AllByRecursion (MissesNothing plans inserted trace) all → IsFirstMissing plans inserted trace all a l → ⊥
  none_or_first plans inserted trace [] a l none first = first
  none_or_first plans inserted trace (next ∷ others) a l none first =
      ⊎_elim
      (λ p. nil_not_cons l p.1 (misses_one plans inserted trace next [] (l ∷ p.1) none.0 p.2))
      (λ p. none_or_first plans inserted trace others a l none.1 p.1)
      first

pub first_is_wanted : (plans : List Plan) (inserted : Bool) (trace : List Step) (all : List Candidate) (a : Candidate) (l : Literal)
    → IsFirstMissing plans inserted trace all a l → IsWanted trace l
first_is_wanted plans inserted trace [] a l first = absurd first
first_is_wanted plans inserted trace (Waiting j ∷ others) a l first =
    ⊎_elim
    (λ p. (missing_of_are_wanted trace plans j (is_forced inserted (time_now trace) j) (l ∷ p.1) p.2).0)
    (λ p. first_is_wanted plans inserted trace others a l p.1)
    first
first_is_wanted plans inserted trace (Root rule plan ∷ others) a l first =
    ⊎_elim
    (λ p. (missing_are_wanted trace plan no_values (l ∷ p.1) p.2).0)
    (λ p. first_is_wanted plans inserted trace others a l p.1)
    first

-- what a wanted literal does leaves no repeats, and is one
applied_is_one : (kind : LiteralKind) (event : Event) (before first second : List Event) → HasNoRepeats before
    → Applies kind event before first → Applies kind event before second → first ≡ second
applied_is_one Cause event before first second distinct is too = is ∙ sym too
applied_is_one Suppress event before first second distinct a b =
    a.is ∙ taken_is_one a.front b.front a.back b.back event (sym a.was ∙ b.was) (subst HasNoRepeats a.was distinct) ∙ sym b.is

distinct_applied : (kind : LiteralKind) (event : Event) (before after : List Event) (trace : List Step)
    → (step_at trace (last_position trace)).events ≡ before → WantedAs trace kind event → HasNoRepeats before
    → Applies kind event before after → HasNoRepeats after
distinct_applied Cause event before after trace events wanted distinct is =
    subst HasNoRepeats (sym is) (HasNoRepeats-push before event distinct (λ there. wanted (subst (λ l. Contains l event) (sym events) there)))
distinct_applied Suppress event before after trace events wanted distinct taken =
    subst HasNoRepeats (sym taken.is) (without_middle taken.front taken.back event (subst HasNoRepeats taken.was distinct))

pub first_leaves_distinct : (plans : List Plan) (trace : List Step) (pending : List Instance) (inserted : Bool) (time : ℕ)
    (before after : List Event) (asked : Candidate) (literal : Literal) → HasNoRepeats before
    → IsFirstMissing plans inserted (trace_with_step trace time before) (all_asked plans pending) asked literal
    → Applies literal.kind literal.event before after → HasNoRepeats after
first_leaves_distinct plans trace pending inserted time before after asked literal distinct is applies =
    let now = trace_with_step trace time before in
    let wanted = first_is_wanted plans inserted now (all_asked plans pending) asked literal is in
    let events : (step_at now (last_position now)).events ≡ before =
    ap (λ (s : Step). s.events) (last_step trace (record { time = time; events = before }))
    in
    distinct_applied literal.kind literal.event before after now events wanted distinct applies

pub decided_is_distinct : DecidedIsDistinct
decided_is_distinct plans trace pending inserted time before [] after distinct decided =
    subst HasNoRepeats (sym decided.0) distinct
decided_is_distinct plans trace pending inserted time before (a ∷ actions) after distinct (asked, literal, between, is, acts, applies, more) =
    decided_is_distinct plans trace pending inserted time between actions after
    (first_leaves_distinct plans trace pending inserted time before between asked literal distinct is applies) more

module _ (missing_one : MissingIsOne) (missing_of_one : MissingOfIsOne) where
  pub decides_is_one : DecidesIsOne
  decides_is_one plans trace pending inserted time before [] [] after rest distinct first second =
      (refl, first.0 ∙ sym second.0)
  decides_is_one plans trace pending inserted time before [] (b ∷ others) after rest distinct first (asked, literal, between, is, acts, applies, more) =
      absurd (none_or_first missing_one missing_of_one plans inserted (trace_with_step trace time before) (all_asked plans pending) asked literal first.1 is)
  decides_is_one plans trace pending inserted time before (a ∷ actions) [] after rest distinct (asked, literal, between, is, acts, applies, more) second =
      absurd (none_or_first missing_one missing_of_one plans inserted (trace_with_step trace time before) (all_asked plans pending) asked literal second.1 is)
  decides_is_one plans trace pending inserted time before (a ∷ actions) (b ∷ others) after rest distinct
      (asked, literal, between, is, acts, applies, more) (other, another, amid, too, does, takes, rests) =
      let now = trace_with_step trace time before in
      let one : (asked ≡ other) × (literal ≡ another) =
      first_one missing_one missing_of_one plans inserted now (all_asked plans pending) asked other literal another is too
      in
      let same : a ≡ b = acts ∙ (λ i. action_for now (one.0 i) (one.1 i)) ∙ sym does in
      let applied : Applies literal.kind literal.event before amid =
      subst (λ (l : Literal). Applies l.kind l.event before amid) (sym one.1) takes
      in
      let to : between ≡ amid = applied_is_one literal.kind literal.event before between amid distinct applies applied in
      let left = first_leaves_distinct plans trace pending inserted time before between asked literal distinct is applies in
      let behind =
      decides_is_one plans trace pending inserted time between actions others after rest left more
      (subst (λ l. Decides plans trace pending inserted time l others rest) (sym to) rests)
      in
      (λ i. same i ∷ behind.0 i, behind.1)

pub decided_misses_nothing : DecidedMissesNothing
decided_misses_nothing plans trace pending inserted time before [] after decided =
    subst (λ l. AllByRecursion (MissesNothing plans inserted (trace_with_step trace time l)) (all_asked plans pending)) (sym decided.0) decided.1
decided_misses_nothing plans trace pending inserted time before (a ∷ actions) after (asked, literal, between, first, is, applies, more) =
    decided_misses_nothing plans trace pending inserted time between actions after more

-- ---- what is emitted

abbrev acted : StepKind → ℕ → List Event → List Action → ActedStep
acted kind time events actions = record { kind = kind; step = record { time = time; events = events }; actions = actions }

same_step : (k l : StepKind) (t s : ℕ) (e f : List Event) (a b : List Action) → k ≡ l → t ≡ s → e ≡ f → a ≡ b
    → acted k t e a ≡ acted l s f b
same_step k l t s e f a b kinds times events actions =
    λ i. acted (kinds i) (times i) (events i) (actions i)

pub distinct_behind : (next : Record) (records : List Record) → AreDistinct (next ∷ records) → AreDistinct records
distinct_behind (StepRecord step) records distinct = distinct.1
distinct_behind (Tick time) records distinct = distinct

module _ (missing_one : MissingIsOne) (missing_of_one : MissingOfIsOne) (pend_one : PendIsOne) where
  goes_out_one : (plans : List Plan) (trace : List Step) (kind : StepKind) (time : ℕ) (events : List Event) (o p : ActedStep)
      → HasNoRepeats events → GoesOut plans trace kind time events o → GoesOut plans trace kind time events p → o ≡ p
  goes_out_one plans trace kind time events o p distinct first second =
      let pending = pend_one plans trace second.pending first.pending second.pend first.pend in
      let one =
      decides_is_one missing_one missing_of_one plans trace first.pending (is_inserted kind) time events o.actions p.actions o.step.events p.step.events distinct first.decided
      (subst (λ l. Decides plans trace l (is_inserted kind) time events p.actions p.step.events) pending second.decided)
      in
      same_step o.kind p.kind o.step.time p.step.time o.step.events p.step.events o.actions p.actions (first.kind_is ∙ sym second.kind_is) (first.time_is ∙ sym second.time_is) one.1 one.0

  least_one : (plans : List Plan) (pending : List Instance) (d e : ℕ) → IsLeastDeadline plans pending d
      → IsLeastDeadline plans pending e → d ≡ e
  least_one plans pending d e first second =
      let below : d ≤ e =
      All-contains (λ i. (deadline : ℕ) → HasDeadline plans i deadline → d ≤ deadline) pending second.instance first.least second.there e second.is
      in
      let above : e ≤ d =
      All-contains (λ i. (deadline : ℕ) → HasDeadline plans i deadline → e ≤ deadline) pending first.instance second.least first.there d first.is
      in
      omega arith

  inserts_one : (plans : List Plan) (trace : List Step) (until : Option ℕ) (out others : List ActedStep)
      → InsertsSteps plans trace until out → InsertsSteps plans trace until others → out ≡ others
  inserts_one plans trace until [] [] first second = refl
  inserts_one plans trace until [] (p ∷ others) (pending, pend, none) (deadline, (there, too, least), passed, goes, more) =
      let same = pend_one plans trace there pending too pend in
      absurd (none least.instance deadline (subst (λ l. Contains l least.instance) same least.there) least.is passed)
  inserts_one plans trace until (o ∷ out) [] (deadline, (there, too, least), passed, goes, more) (pending, pend, none) =
      let same = pend_one plans trace there pending too pend in
      absurd (none least.instance deadline (subst (λ l. Contains l least.instance) same least.there) least.is passed)
  inserts_one plans trace until (o ∷ out) (p ∷ others) (d, (pending, pend, least), passed, goes, more) (e, (there, too, first), over, went, rest) =
      let same = pend_one plans trace there pending too pend in
      let at : e ≡ d = least_one plans pending e d (subst (λ l. IsLeastDeadline plans l e) same first) least in
      let is : o ≡ p =
      goes_out_one plans trace Inserted d [] o p tt goes (subst (λ t. GoesOut plans trace Inserted t [] p) at went)
      in
      let behind =
      inserts_one plans (trace ++ o.step ∷ []) until out others more
      (subst (λ (s : ActedStep). InsertsSteps plans (trace ++ s.step ∷ []) until others) (sym is) rest)
      in
      λ i. is i ∷ behind i

  answers_one : (plans : List Plan) (trace : List Step) (next : Record) (records : List Record) (out others : List ActedStep)
      → AreDistinct (next ∷ records) → StepGoesOut plans trace next out → StepGoesOut plans trace next others → out ≡ others
  answers_one plans trace (StepRecord step) records out others distinct (o, goes, is) (p, went, too) =
      let same = goes_out_one plans trace System step.time step.events o p distinct.0 goes went in
      is ∙ (λ i. same i ∷ []) ∙ sym too
  answers_one plans trace (Tick time) records out others distinct is too = is ∙ sym too

  pub follows_is_one : FollowsIsOne
  follows_is_one plans trace [] out others distinct first second = first ∙ sym second
  follows_is_one plans trace (next ∷ records) out others distinct (inserted, answer, rest, inserts, answers, more, is) (amid, reply, behind, puts, replies, goes, too) =
      let a : inserted ≡ amid = inserts_one plans trace (Some (time_of next)) inserted amid inserts puts in
      let b : answer ≡ reply =
      answers_one plans (trace ++ steps_of inserted) next records answer reply distinct answers
      (subst (λ l. StepGoesOut plans (trace ++ steps_of l) next reply) (sym a) replies)
      in
      let both : inserted ++ answer ≡ amid ++ reply = λ i. a i ++ b i in
      let c : rest ≡ behind =
      follows_is_one plans (trace ++ steps_of (inserted ++ answer)) records rest behind (distinct_behind next records distinct) more
      (subst (λ l. Follows plans (trace ++ steps_of l) records behind) (sym both) goes)
      in
      is ∙ (λ i. both i ++ c i) ∙ sym too

  pub drain_is_one : DrainIsOne
  drain_is_one plans trace out others first second = inserts_one plans trace None out others first second
