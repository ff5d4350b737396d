-- One step that is emitted: it misses nothing, whichever kind it is of, and an enforcer stands for the trace with it.
use Rattle.enforcer_core.proofs.Vocabulary.{◌≡◌, ℕ, suc, ◌≤◌, Bool, true, false, List, [], ◌∷◌, ◌++◌, map, refl, sym, ap, subst, ◌∙◌, arith, ⊎_elim, inl, Option, None, Some, Contains, AllByRecursion}
use Rattle.enforcer_core.proofs.Vocabulary.{eqb-true, All-from_recursion, AllByRecursion-from_contains, AllByRecursion-of_append, HasNoRepeats, Valuation, no_values, Event, Step, last_time, StepKind}
use Rattle.enforcer_core.proofs.Vocabulary.{Plan, CausePlan, SuppressPlan, Both, Either, TestOr, Guarded, EventuallyPlan, AlwaysPlan, UntilPlan, NextPlan, LacksNothing, LacksSome, time_now, Missing}
use Rattle.enforcer_core.proofs.Vocabulary.{deadline_is_listed, listed_is_deadline, MissingIsOne, AtNode, HasDeadline, IsCleanAt, IsReady, MissesAt, MissingOf, NoneIsOver, Pend, node_of, IsLeastOf}
use Rattle.enforcer_core.proofs.Vocabulary.{Instance, IsPendingListOf, PendingList, MissesNothing, Waiting, all_asked, is_forced, roots_from, trace_with_step, ActedStep, is_inserted, GoesOut}
use Rattle.enforcer_core.proofs.Vocabulary.{IsLeastDeadline, StoredTyped, policy_plans, enforcing_at, RemembersTrace, Stands, StepLaws, Remembered}

-- ---- deadlines

-- what an instance has to meet is in the list, and the other way round
pub deadline_listed : (plans : List Plan) (pending : PendingList) (i : Instance) (deadline : ℕ) → IsPendingListOf plans pending
    → Contains pending.instances i → HasDeadline plans i deadline → Contains pending.deadlines deadline
deadline_listed plans pending i deadline keeps there has =
    deadline_is_listed plans pending.instances pending.deadlines keeps.due i deadline there has

-- where no deadline of the list is earlier, none of the instances is
pub none_earlier : (plans : List Plan) (pending : PendingList) (time : ℕ) → IsPendingListOf plans pending
    → ((deadline : ℕ) → Contains pending.deadlines deadline → time ≤ deadline) → NoneIsOver plans pending.instances time
none_earlier plans pending time keeps later =
    All-from_recursion (λ i. (deadline : ℕ) → HasDeadline plans i deadline → time ≤ deadline) pending.instances
    (AllByRecursion-from_contains (λ i. (deadline : ℕ) → HasDeadline plans i deadline → time ≤ deadline) pending.instances
    (λ i there deadline has. later deadline (deadline_listed plans pending i deadline keeps there has)))

pub least_is : (plans : List Plan) (pending : PendingList) (deadline : ℕ) → IsPendingListOf plans pending
    → IsLeastOf pending.deadlines (Some deadline) → IsLeastDeadline plans pending.instances deadline
least_is plans pending deadline keeps least =
    let has : (i : Instance) × Contains pending.instances i × HasDeadline plans i deadline = listed_is_deadline plans pending.instances pending.deadlines keeps.due deadline least.0 in
    record { instance = has.0; there = has.1; is = has.2; least = none_earlier plans pending deadline keeps least.1 }

lacks_or_not : MissingIsOne → (trace : List Step) (plan : Plan) (v : Valuation) → LacksSome trace plan v → Missing trace plan v [] → ⊥
lacks_or_not one trace plan v (first, rest, some) none =
    let same : first ∷ rest ≡ [] = one trace plan v (first ∷ rest) [] some none in cc

unforced_at : MissingIsOne → (trace : List Step) (node : Plan) (i : Instance) (forced : Bool) → i.low ≤ i.high
    → (forced ≡ true → time_now trace ≡ i.high) → MissesAt trace node i forced [] → MissesAt trace node i false []
unforced_at one trace (EventuallyPlan node place low high body) i forced order due misses = refl
unforced_at one trace (UntilPlan node place low high left right) i true order due misses =
    let at : time_now trace ≡ i.high = due refl in
    ⊎_elim (λ now. inl now)
    (λ later. absurd (lacks_or_not one trace right i.valuation (later.0 (omega (arith, order, at), omega (arith, at))) later.1)) misses
unforced_at one trace (UntilPlan node place low high left right) i false order due misses = misses
unforced_at one trace (NextPlan node place high body) i forced order due misses = misses
unforced_at one trace (AlwaysPlan node place low high body) i forced order due misses = misses
unforced_at one trace (CausePlan node place name terms) i forced order due misses = misses
unforced_at one trace (SuppressPlan node place name terms) i forced order due misses = misses
unforced_at one trace (Both node left right) i forced order due misses = misses
unforced_at one trace (Either node left right) i forced order due misses = misses
unforced_at one trace (TestOr node guard test body) i forced order due misses = misses
unforced_at one trace (Guarded node xs guard test body) i forced order due misses = misses

unforced : MissingIsOne → (plans : List Plan) (trace : List Step) (i : Instance) (forced : Bool) → i.low ≤ i.high
    → (forced ≡ true → time_now trace ≡ i.high) → MissingOf plans trace i forced [] → MissingOf plans trace i false []
unforced one plans trace i forced order due misses = by (node_of plans i) misses
  where
    by : (found : Option Plan) → AtNode found (λ node. MissesAt trace node i forced [])
        → AtNode found (λ node. MissesAt trace node i false [])
    by None none = none
    by (Some node) none = unforced_at one trace node i forced order due none

forced_is_due : (inserted : Bool) (time : ℕ) (i : Instance) → is_forced inserted time i ≡ true → time ≡ i.high
forced_is_due true time i is = eqb-true time i.high is
forced_is_due false time i is = absurd cc

-- ---- nothing is missing at a step

roots_lack : (plans : List Plan) (inserted : Bool) (trace : List Step) (rule : ℕ) (others : List Plan)
    → AllByRecursion (MissesNothing plans inserted trace) (roots_from rule others)
    → AllByRecursion (λ plan. LacksNothing trace plan no_values) others
roots_lack plans inserted trace rule [] all = tt
roots_lack plans inserted trace rule (plan ∷ others) all = (all.0, roots_lack plans inserted trace (suc rule) others all.1)

waiting_miss : MissingIsOne → (plans : List Plan) (inserted : Bool) (trace : List Step) (pending : List Instance)
    → AllByRecursion (λ i. i.low ≤ i.high) pending
    → AllByRecursion (MissesNothing plans inserted trace) (map Waiting pending)
    → AllByRecursion (λ i. MissingOf plans trace i false []) pending
waiting_miss one plans inserted trace [] order all = tt
waiting_miss one plans inserted trace (i ∷ pending) order all = (
  unforced one plans trace i (is_forced inserted (time_now trace) i) order.0 (forced_is_due inserted (time_now trace) i) all.0,
  waiting_miss one plans inserted trace pending order.1 all.1,
)

module _ (laws : StepLaws) (plans : List Plan) (trace : List Step) (kind : StepKind) (time : ℕ) (events : List Event)
    (o : ActedStep) (goes : GoesOut plans trace kind time events o) (pending : List Instance) (pend : Pend plans trace pending) where
  abbrev longer : List Step
  longer = trace ++ o.step ∷ []

  last_is : last_time longer ≡ time
  last_is = laws.newest trace o.step ∙ goes.time_is

  misses_nothing : AllByRecursion (MissesNothing plans (is_inserted kind) longer) (all_asked plans pending)
  misses_nothing =
      subst (λ (step : Step). AllByRecursion (MissesNothing plans (is_inserted kind) (trace ++ step ∷ [])) (all_asked plans pending))
      (ap (λ (t : ℕ). record { time = t; events = o.step.events }) (sym goes.time_is))
      (subst (λ (l : List Instance). AllByRecursion (MissesNothing plans (is_inserted kind) (trace_with_step trace time o.step.events)) (all_asked plans l))
      (laws.pending plans trace goes.pending pending goes.pend pend)
      (laws.missed plans trace goes.pending (is_inserted kind) time events o.actions o.step.events goes.decided))

  clean_at : AllByRecursion (λ i. i.low ≤ i.high) pending → NoneIsOver plans pending time → IsCleanAt plans longer pending
  clean_at order none_over =
      let parts = AllByRecursion-of_append (MissesNothing plans (is_inserted kind) longer) (map Waiting pending) (roots_from 0 plans) misses_nothing in
      record {
        roots = All-from_recursion (λ plan. LacksNothing longer plan no_values) plans (roots_lack plans (is_inserted kind) longer 0 plans parts.1);
        instances = All-from_recursion (λ i. MissingOf plans longer i false []) pending (waiting_miss laws.missing plans (is_inserted kind) longer pending order parts.0);
        in_time = subst (NoneIsOver plans pending) (sym last_is) none_over;
      }

  -- the trace with it is ready for a clock that is not before it, where no deadline after it is
  pub ready_behind : (clock behind : ℕ) → IsReady plans trace clock → AllByRecursion (λ i. i.low ≤ i.high) pending
      → NoneIsOver plans pending time → time ≤ behind → (after : List Instance) → Pend plans longer after
      → NoneIsOver plans after behind → IsReady plans longer behind
  ready_behind clock behind ready order none_over not_later after pend_after none_behind = record {
    clean = laws.cleans plans trace o.step pending ready.clean pend (clean_at order none_over);
    pending = after;
    pend = pend_after;
    in_time = none_behind;
    not_later = omega (arith, last_is, not_later);
  }

-- ---- for what it stands

module _ (laws : StepLaws) (policy : StoredTyped) (r r' : Remembered) (clock time behind : ℕ) (later : clock ≤ time)
    (not_later : time ≤ behind) (kind : StepKind) (events : List Event) (o : ActedStep) (trace : List Step) where
  abbrev plans : List Plan
  plans = policy_plans policy

  pub stands_behind : Stands (enforcing_at policy r clock) trace → AllByRecursion (λ i. i.low ≤ i.high) r.pending.instances
      → NoneIsOver plans r.pending.instances time → GoesOut plans trace kind time events o → HasNoRepeats o.step.events
      → RemembersTrace plans r' (trace ++ o.step ∷ []) → IsPendingListOf plans r'.pending
      → NoneIsOver plans r'.pending.instances behind → Stands (enforcing_at policy r' behind) (trace ++ o.step ∷ [])
  stands_behind stands order none_over goes distinct remembers keeps none_behind = record {
    is_trace = laws.grows trace o.step stands.is_trace (let last = stands.ready.not_later in let at = goes.time_is in omega (arith, last, later, at)) distinct;
    ready = ready_behind laws plans trace kind time events o goes r.pending.instances stands.pending clock behind stands.ready order none_over not_later
        r'.pending.instances remembers.pending none_behind;
    position = remembers.position;
    last = remembers.last;
    past = remembers.past;
    pending = remembers.pending;
    deadlines = keeps;
  }

-- at a later clock, where no deadline is below it
pub stands_later : (policy : StoredTyped) (r : Remembered) (clock time : ℕ) → clock ≤ time
    → NoneIsOver (policy_plans policy) r.pending.instances time → (trace : List Step) → Stands (enforcing_at policy r clock) trace
    → Stands (enforcing_at policy r time) trace
stands_later policy r clock time later none_over trace stands = record {
  is_trace = stands.is_trace;
  ready = record {
    clean = stands.ready.clean;
    pending = r.pending.instances;
    pend = stands.pending;
    in_time = none_over;
    not_later = let last = stands.ready.not_later in omega (arith, last, later);
  };
  position = stands.position;
  last = stands.last;
  past = stands.past;
  pending = stands.pending;
  deadlines = stands.deadlines;
}
