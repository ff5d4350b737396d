-- At a step at which nothing is awake nothing is missed, nothing is begun, and what is pending stays as it is.
use Rattle.choice_step.proofs.Vocabulary.{◌≡◌, ℕ, suc, Bool, List, [], ◌∷◌, ◌++◌, Option, Some, All, ap, map, refl, subst, sym, ◌∙◌, ◌+◌, ◌<◌, ◌≤◌, length, take, get_or, AllByRecursion, map-append}
use Rattle.choice_step.proofs.Vocabulary.{take_more, All-contains, AllByRecursion-append, step_at, no_values, Event, NameId, Step, VarId, Formula, Plan, waking_names, last_position, BegunByRoots}
use Rattle.choice_step.proofs.Vocabulary.{CanAskRoots, UnwokenBeginsNothing, UnwokenMissesNothing, MissesNothing, roots_from, trace_with_step, AllSleep, HasNoneOf, IsAway}
use Rattle.choice_step.proofs.Vocabulary.{AllButThose, CanAskOf, Contains, Decides, EarlyMissNothing, HasNone, Instance, IsWaitOf, Listed, MissingOfExists, PendingList, SleepersMissNothing}
use Rattle.choice_step.proofs.Vocabulary.{SleepsNow, Wait, Waiting, append-nil, arith, false, true, first_or_later, inl, listed_instances, nil_not_cons, node_of, none_in_nil, step_moment, time_now, ⊎_elim, ◌⊎◌}
use Rattle.choice_step.proofs.Vocabulary.{AtNode, Gathers, is_forced}
use Rattle.choice_step.specs.machine.Laws.{AllAreAsleep}
use Rattle.obligations.specs.machine.ExistenceLaws.{AfterExists}
use Rattle.obligations.specs.machine.Parts.{HasPart}
use Rattle.obligations.specs.machine.Successors.{ComesAt, LeadsAt}
use Rattle.obligations.specs.machine.PlanClasses.{PlansStand}
use Rattle.obligations.specs.machine.TriggeredNodes.{IsBegunUnder}
use Rattle.obligations.specs.machine.UnmetGoals.{AreUnmet, IsUnmetOf}
use Rattle.trace_meaning.specs.meaning.Traces.{last_time}
use Rattle.obligations.specs.meaning.Pending.{After, PendingAfter}
use Rattle.pending.proofs.MomentLemmas.{before_last, not_begun, not_forced, not_later}
use Rattle.pending.proofs.WakePatternLemmas.{not_over}
use Rattle.pending.specs.machine.Laws.{EarlyStay, SleepersStay}
use Rattle.plan_terms.specs.meaning.Plans.{has_deadline}
use Rattle.choice_step.proofs.SleeperLemmas.{sleeper_met}
use Rattle.choice_step.proofs.UniquenessLemmas.{last_step}
use Rattle.choice_step.proofs.RuleTriggerLemmas.{none_met}

module _ (guards : List (Formula × List VarId)) (trace : List Step) where
  abbrev last : List Event
  last = (step_at trace (last_position trace)).events

  roots_miss : UnwokenMissesNothing → (plans : List Plan) (inserted : Bool) (rule : ℕ) (roots : List Plan) → CanAskRoots guards roots
      → AllSleep (map waking_names roots) last → AllByRecursion (MissesNothing plans inserted trace) (roots_from rule roots)
  roots_miss unwoken plans inserted rule [] can asleep = tt
  roots_miss unwoken plans inserted rule (root ∷ roots) can asleep = (
    unwoken guards trace root no_values can.0.0 (none_met last (waking_names root) asleep.0),
    roots_miss unwoken plans inserted (suc rule) roots can.1 asleep.1,
  )

  roots_begin : UnwokenBeginsNothing → (rule : ℕ) (roots : List Plan) → CanAskRoots guards roots → AllSleep (map waking_names roots) last
      → BegunByRoots trace rule roots []
  roots_begin unwoken rule [] can asleep = refl
  roots_begin unwoken rule (root ∷ roots) can asleep = (
    [],
    [],
    unwoken guards trace rule root no_values can.0.0 (none_met last (waking_names root) asleep.0),
    roots_begin unwoken (suc rule) roots can.1 asleep.1,
    refl,
  )

asleep_behind : (plans : List Plan) (trace : List Step) (time : ℕ) (events : List Event) → AllSleep (map waking_names plans) events
    → AllSleep (map waking_names plans) (step_at (trace_with_step trace time events) (last_position (trace_with_step trace time events))).events
asleep_behind plans trace time events asleep =
    subst (λ (step : Step). AllSleep (map waking_names plans) step.events) (sym (last_step trace (record { time = time; events = events }))) asleep

-- all of a list but those that sleep is none: all sleep
all_sleeping : {X : Type 0} (Q : X → Type 0) (xs : List X) → AllButThose Q xs [] → AllByRecursion Q xs
all_sleeping Q [] but = tt
all_sleeping Q (x ∷ xs) but = ⊎_elim (λ awake. absurd (nil_not_cons x awake.0 awake.3)) (λ both. (both.0, all_sleeping Q xs both.1)) but

module _ (guards : List (Formula × List VarId)) (plans : List Plan) (inserted : Bool) (time : ℕ) (events : List Event) where
  abbrev Asleep : Listed → Type 0
  Asleep = SleepsNow events (step_moment inserted time)

  -- ---- nothing is missed

  module _ (exists : MissingOfExists) (sleep : SleepersMissNothing) (early : EarlyMissNothing) (trace : List Step) where
    each_met : (xs : List Listed) → AllByRecursion (CanAskOf guards plans) (listed_instances xs) → AllByRecursion (λ x. IsWaitOf plans x.wait x.instance) xs → AllByRecursion Asleep xs
        → AllByRecursion (MissesNothing plans inserted (trace_with_step trace time events)) (map Waiting (listed_instances xs))
    each_met [] can waits asleep = tt
    each_met (x ∷ xs) can waits asleep = (sleeper_met exists sleep early guards plans inserted trace time events x can.0 waits.0 asleep.0, each_met xs can.1 waits.1 asleep.1)

  -- ---- each stays as it is

  module _ (exists : AfterExists) (stay : SleepersStay) (early_stay : EarlyStay) (stand : PlansStand plans) (trace : List Step) (later : last_time trace ≤ time) where
    abbrev now : List Step
    now = trace_with_step trace time events

    itself : (x : Listed) → CanAskOf guards plans x.instance → IsWaitOf plans x.wait x.instance → Asleep x → IsUnmetOf plans trace x.instance
        → After plans now x.instance (x.instance ∷ [])
    itself x can is asleep unmet =
        let i = x.instance in
        let last = last_step trace (record { time = time; events = events }) in
        let at : time_now now ≡ time = ap (λ (s : Step). s.time) last in
        let none = subst (HasNone asleep.patterns) (sym (ap (λ (s : Step). s.events) last)) asleep.none in
        let found = exists guards plans now i can in
        let within = not_later inserted time i.high (before_last plans x.wait i (step_moment inserted time) is asleep.in_time) in
        subst (After plans now i) (⊎_elim
        (λ open_is. stay guards plans trace (record { time = time; events = events }) i stand can
        (record { patterns = asleep.patterns; wakes = sym (ap (λ (w : Wait). w.patterns) open_is) ∙ asleep.waits; none = none })
        (not_over (node_of plans i) i (time_now now) (omega (arith, within, at))) later unmet found.0 found.1)
        (λ early_is.
        let before = not_begun inserted time i (subst (λ (w : Wait). step_moment inserted time < w.until) early_is asleep.in_time) in
        early_stay guards plans now i can (record {
          patterns = asleep.patterns;
          wakes = sym (ap (λ (w : Wait). w.patterns) early_is) ∙ asleep.waits;
          none = none;
          before = omega (arith, before, at);
        }) found.0 found.1) is) found.1

    each_stays : (xs : List Listed) → AllByRecursion (CanAskOf guards plans) (listed_instances xs) → AllByRecursion (λ x. IsWaitOf plans x.wait x.instance) xs → AllByRecursion Asleep xs
        → AreUnmet plans trace (listed_instances xs) → Gathers (After plans now) (listed_instances xs) (listed_instances xs)
    each_stays [] can waits asleep unmet = refl
    each_stays (x ∷ xs) can waits asleep unmet =
        (x.instance ∷ [], listed_instances xs, itself x can.0 waits.0 asleep.0 unmet.0, each_stays xs can.1 waits.1 asleep.1 unmet.1, refl)

  -- ---- each comes of itself

  comes_on : (position : ℕ) (x : Listed) → CanAskOf guards plans x.instance → IsWaitOf plans x.wait x.instance → Asleep x
      → ComesAt events time position plans inserted x.instance x.instance
  comes_on position x can is asleep =
      let before = before_last plans x.wait x.instance (step_moment inserted time) is asleep.in_time in
      subst (λ (o : Option Plan). AtNode o (λ node. ((x.instance ≡ x.instance) × (has_deadline node ≡ true → is_forced inserted time x.instance ≡ false))
      ⊎ ((part : Plan) × HasPart node part × IsBegunUnder events time position x.instance.rule part x.instance))) (sym can.found)
      (inl (refl, λ due. not_forced inserted time x.instance.high before))

  each_comes : (position : ℕ) (xs : List Listed) → AllByRecursion (CanAskOf guards plans) (listed_instances xs) → AllByRecursion (λ x. IsWaitOf plans x.wait x.instance) xs
      → AllByRecursion Asleep xs → (j : Instance) → Contains (listed_instances xs) j → ComesAt events time position plans inserted j j
  each_comes position [] can waits asleep j there = absurd (none_in_nil j there)
  each_comes position (x ∷ xs) can waits asleep j there = ⊎_elim
      (λ same. subst (λ i. ComesAt events time position plans inserted i i) same (comes_on position x can.0 waits.0 asleep.0))
      (λ behind. each_comes position xs can.1 waits.1 asleep.1 j behind)
      (first_or_later j x.instance (listed_instances xs) there)

  module _ (pending : PendingList) (all : AllAreAsleep guards plans inserted time events pending) where
    same : listed_instances pending.listed ≡ pending.instances
    same = all.kept.instances

    can : AllByRecursion (CanAskOf guards plans) (listed_instances pending.listed)
    can = subst (AllByRecursion (CanAskOf guards plans)) (sym same) all.instances

    asleep : AllByRecursion Asleep pending.listed
    asleep = all_sleeping Asleep pending.listed all.sleep

    pub decides_nothing : MissingOfExists → SleepersMissNothing → EarlyMissNothing → UnwokenMissesNothing → (trace : List Step)
        → Decides plans trace pending.instances inserted time events [] events
    decides_nothing exists sleep early unwoken trace = (
      refl,
      AllByRecursion-append (MissesNothing plans inserted (trace_with_step trace time events)) (map Waiting pending.instances) (roots_from 0 plans)
          (subst (λ l. AllByRecursion (MissesNothing plans inserted (trace_with_step trace time events)) (map Waiting l)) same
          (each_met exists sleep early trace pending.listed can all.kept.waits asleep))
          (roots_miss guards (trace_with_step trace time events) unwoken plans inserted 0 plans all.roots (asleep_behind plans trace time events all.rules)),
    )

    pub changes_nothing : AfterExists → SleepersStay → EarlyStay → UnwokenBeginsNothing → (trace : List Step)
        → PlansStand plans → last_time trace ≤ time → AreUnmet plans trace pending.instances
        → PendingAfter plans (trace_with_step trace time events) pending.instances pending.instances
    changes_nothing exists stay early_stay unwoken trace stand later unmet = (
      pending.instances,
      [],
      subst (λ l. Gathers (After plans (trace_with_step trace time events)) l l) same
          (each_stays exists stay early_stay stand trace later pending.listed can all.kept.waits asleep (subst (AreUnmet plans trace) (sym same) unmet)),
      roots_begin guards (trace_with_step trace time events) unwoken 0 plans all.roots (asleep_behind plans trace time events all.rules),
      sym (append-nil pending.instances),
    )

    pub come_of_themselves : (position : ℕ) → LeadsAt events time position plans inserted pending.instances pending.instances
    come_of_themselves position j there =
        inl (j, there, each_comes position pending.listed can all.kept.waits asleep j (subst (λ l. Contains l j) (sym same) there))

-- ---- what the calls find out

pub away_from : (events : List Event) (name : NameId) → All (λ (e : Event). e.name ≡ name → ⊥) events → IsAway events name
away_from events name all event there same = All-contains (λ (e : Event). e.name ≡ name → ⊥) events event all there same

pub sleep_more : {X : Type 0} (names : X → Option (List NameId)) (xs : List X) (i : ℕ) (x : X) (events : List Event) → i < length xs
    → x ≡ get_or xs i x → AllSleep (map names (take i xs)) events → HasNoneOf (Some (names x)) events
    → AllSleep (map names (take (i + 1) xs)) events
sleep_more names xs i x events within is front here =
    subst (λ l. AllSleep l events)
    (sym (ap (map names) (take_more xs i x within ∙ ap (λ y. take i xs ++ y ∷ []) (sym is)) ∙ map-append names (take i xs) (x ∷ [])))
    (AllByRecursion-append (λ (own : Option (List NameId)). HasNoneOf (Some own) events) (map names (take i xs)) (names x ∷ []) front (here, tt))
