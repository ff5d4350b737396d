-- Where no deadline is left the policy is satisfied, and so each trace that is ready can be continued well.
use Rattle.enforcer_core.proofs.Vocabulary.{◌≡◌, ℕ, ◌<◌, ◌≤◌, true, List, [], ◌∷◌, ◌++◌, All, length, refl, sym, subst, append_assoc, arith, Option, None, Contains, AllByRecursion, append-nil}
use Rattle.enforcer_core.proofs.Vocabulary.{All-cons, All-contains, All-from_recursion, All-nil, All-weaker, IsTrace, AllByRecursion-contains, AllByRecursion-from_contains, no_values, Step, VarId}
use Rattle.enforcer_core.proofs.Vocabulary.{Formula, Sat, Good, Satisfies, StepKind, Inserted, has_deadline, is_future, Plan, CausePlan, SuppressPlan, Both, Either, TestOr, Guarded, EventuallyPlan}
use Rattle.enforcer_core.proofs.Vocabulary.{AlwaysPlan, UntilPlan, NextPlan, Typed, WorkTogether, AtNode, HasDeadline, IsClean, IsReady, NoneIsOver, Pend, OwesAt, Residual, AllHold, PendingIsEnough}
use Rattle.enforcer_core.proofs.Vocabulary.{PlansStand, CanAskOf, Instance, Decides, ActedStep, is_inserted, steps_of, FollowsDrain, InsertsSteps, formulas_for, DrainLaws}
use Rattle.enforcer_core.proofs.StepLemmas.{ready_behind}

-- ---- where no deadline is left

abbrev pub NoDeadline : List Plan → List Instance → Type 0
NoDeadline plans pending = (i : Instance) (deadline : ℕ) → Contains pending i → HasDeadline plans i deadline → ⊥

-- the positions after a trace owe an instance nothing, where it has no deadline
owes_nothing : (trace : List Step) (i : Instance) (node : Plan) → is_future node ≡ true → (has_deadline node ≡ true → ⊥)
    → OwesAt trace (length trace) node i
owes_nothing trace i (AlwaysPlan node place low high body) future none =
    λ j left. let from = left.from_there in let there = left.is_there in absurd (omega (arith, from, there))
owes_nothing trace i (EventuallyPlan node place low high body) future none = absurd (none refl)
owes_nothing trace i (UntilPlan node place low high left right) future none = absurd (none refl)
owes_nothing trace i (NextPlan node place high body) future none = absurd (none refl)
owes_nothing trace i (CausePlan node place name terms) future none = absurd cc
owes_nothing trace i (SuppressPlan node place name terms) future none = absurd cc
owes_nothing trace i (Both node left right) future none = absurd cc
owes_nothing trace i (Either node left right) future none = absurd cc
owes_nothing trace i (TestOr node guard test body) future none = absurd cc
owes_nothing trace i (Guarded node xs guard test body) future none = absurd cc

nothing_left : (guards : List (Formula × List VarId)) (plans : List Plan) (trace : List Step) (i : Instance) → CanAskOf guards plans i
    → ((deadline : ℕ) → HasDeadline plans i deadline → ⊥) → Residual plans trace (length trace) i
nothing_left guards plans trace i can none =
    subst (λ (found : Option Plan). AtNode found (λ node. OwesAt trace (length trace) node i)) (sym can.found)
    (owes_nothing trace i can.node can.future
    (λ has. none i.high (subst (λ (found : Option Plan). AtNode found (λ node. (has_deadline node ≡ true) × (i.high ≡ i.high))) (sym can.found) (has, refl))))

-- where all plans hold at each position, the trace satisfies them
satisfied_by : (plans : List Plan) (trace : List Step) → ((i : ℕ) → i < length trace → AllHold trace i plans)
    → AllByRecursion (λ rule. (i : ℕ) → i < length trace → Sat trace i no_values rule) (formulas_for plans)
satisfied_by [] trace each = tt
satisfied_by (plan ∷ plans) trace each = ((λ i within. (each i within).0), satisfied_by plans trace (λ i within. (each i within).1))

pub drained_satisfies : PendingIsEnough → (guards : List (Formula × List VarId)) (plans : List Plan) (trace : List Step) (pending : List Instance)
    → PlansStand plans → IsTrace trace → IsClean plans trace → Pend plans trace pending
    → AllByRecursion (CanAskOf guards plans) pending → NoDeadline plans pending → Satisfies trace (formulas_for plans)
drained_satisfies enough guards plans trace pending stand is_trace clean pend can none =
    let residuals : AllByRecursion (Residual plans trace (length trace)) pending =
    AllByRecursion-from_contains (Residual plans trace (length trace)) pending
    (λ i there. nothing_left guards plans trace i (AllByRecursion-contains (CanAskOf guards plans) pending i can there) (λ deadline has. none i deadline there has)) in
    let each : (i : ℕ) → i < length trace → AllHold trace i plans = λ i within.
    subst (λ (steps : List Step). AllHold steps i plans) (append-nil trace)
    (enough plans trace [] pending stand (subst IsTrace (sym (append-nil trace)) is_trace) clean pend
    (subst (λ (steps : List Step). AllByRecursion (Residual plans steps (length trace)) pending) (sym (append-nil trace)) residuals) i within) in
    All-from_recursion (λ rule. (i : ℕ) → i < length trace → Sat trace i no_values rule) (formulas_for plans) (satisfied_by plans trace each)

-- ---- where all deadlines are served

pend_of : (plans : List Plan) (trace : List Step) (until : Option ℕ) (out : List ActedStep) → InsertsSteps plans trace until out
    → (pending : List Instance) × Pend plans trace pending
pend_of plans trace until [] (pending, pend, none) = (pending, pend)
pend_of plans trace until (o ∷ out) (deadline, (pending, pend, least), passed, goes, rest) = (pending, pend)

-- the trace with these steps, which are not before a clock, is one at which nothing was missed and nothing is left
pub record IsDrained (plans : List Plan) (trace : List Step) (clock : ℕ) (out : List ActedStep) : Type 0 where
  pub later : All (λ (step : Step). clock ≤ step.time) (steps_of out)
  pub is_trace : IsTrace (trace ++ steps_of out)
  pub clean : IsClean plans (trace ++ steps_of out)
  pub pending : List Instance
  pub pend : Pend plans (trace ++ steps_of out) pending
  pub none : NoDeadline plans pending

nothing_drains : (plans : List Plan) (trace : List Step) (clock : ℕ) → IsTrace trace → IsReady plans trace clock
    → (pending : List Instance) → Pend plans trace pending → NoDeadline plans pending → IsDrained plans trace clock []
nothing_drains plans trace clock is_trace ready pending pend none = record {
  later = All-nil (λ (step : Step). clock ≤ step.time);
  is_trace = subst IsTrace (sym (append-nil trace)) is_trace;
  clean = subst (IsClean plans) (sym (append-nil trace)) ready.clean;
  pending = pending;
  pend = subst (λ (steps : List Step). Pend plans steps pending) (sym (append-nil trace)) pend;
  none = none;
}

first_drains : (plans : List Plan) (trace : List Step) (clock deadline : ℕ) (o : ActedStep) (out : List ActedStep)
    → clock ≤ deadline → o.step.time ≡ deadline → IsDrained plans (trace ++ o.step ∷ []) deadline out
    → IsDrained plans trace clock (o ∷ out)
first_drains plans trace clock deadline o out le at d =
    let longer : (trace ++ o.step ∷ []) ++ steps_of out ≡ trace ++ steps_of (o ∷ out) = append_assoc trace (o.step ∷ []) (steps_of out) in
    record {
      later = All-cons (λ (step : Step). clock ≤ step.time) o.step (steps_of out) (omega (arith, le, at))
          (All-weaker (λ (step : Step). deadline ≤ step.time) (λ (step : Step). clock ≤ step.time)
          (λ step then. omega (arith, then, le)) (steps_of out) d.later);
      is_trace = subst IsTrace longer d.is_trace;
      clean = subst (IsClean plans) longer d.clean;
      pending = d.pending;
      pend = subst (λ (steps : List Step). Pend plans steps d.pending) longer d.pend;
      none = d.none;
    }

module _ (laws : DrainLaws) (typed : Typed) (together : WorkTogether typed) where
  abbrev plans : List Plan
  plans = typed.plans

  pub drained : (out : List ActedStep) (trace : List Step) (clock : ℕ) → IsTrace trace → IsReady plans trace clock
      → FollowsDrain plans trace out → IsDrained plans trace clock out
  drained [] trace clock is_trace ready (pending, pend, none) =
      nothing_drains plans trace clock is_trace ready pending pend (λ i deadline there has. none i deadline there has tt)
  drained (o ∷ out) trace clock is_trace ready (deadline, (pending, pend, least), passed, goes, rest) =
      let le : clock ≤ deadline =
      All-contains (λ (i : Instance). (d : ℕ) → HasDeadline plans i d → clock ≤ d) pending least.instance
      (subst (λ (l : List Instance). NoneIsOver plans l clock) (laws.steps.pending plans trace ready.pending pending ready.pend pend) ready.in_time)
      least.there deadline least.is in
      let next = pend_of plans (trace ++ o.step ∷ []) None out rest in
      let falls = laws.steps.counts typed trace pending next.0 deadline o together pend least goes next.1 in
      let distinct = laws.distinct plans trace goes.pending true deadline [] o.actions o.step.events tt
      (subst (λ (kind : StepKind). Decides plans trace goes.pending (is_inserted kind) deadline [] o.actions o.step.events) {x = Inserted} {y = Inserted} refl goes.decided) in
      let last = ready.not_later in let at = goes.time_is in
      first_drains plans trace clock deadline o out le goes.time_is
      (drained out (trace ++ o.step ∷ []) deadline (laws.steps.grows trace o.step is_trace (omega (arith, last, le, at)) distinct)
      (ready_behind laws.steps plans trace Inserted deadline [] o goes pending pend clock deadline ready
      (laws.steps.windows typed trace pending together pend) least.least (omega arith) next.0 next.1 falls.0) rest)

  -- each trace that is ready can be continued well, by the drain that there is
  pub ready_is_good : (trace : List Step) (clock : ℕ) → IsTrace trace → IsReady plans trace clock
      → Good (formulas_for plans) trace clock
  ready_is_good trace clock is_trace ready =
      let some = laws.drains typed trace together in
      let d : IsDrained plans trace clock some.0 = drained some.0 trace clock is_trace ready some.1 in
      let stand : PlansStand plans = laws.stand plans typed.guards together.formed in
      let can : AllByRecursion (CanAskOf typed.guards plans) d.pending =
      laws.asked typed.guards plans (trace ++ steps_of some.0) d.pending stand (laws.roots plans typed.guards together.formed) d.pend in (
        trace ++ steps_of some.0,
        record { more = steps_of some.0; begins = refl; later = d.later; is_trace = d.is_trace },
        drained_satisfies laws.enough typed.guards plans (trace ++ steps_of some.0) d.pending stand d.is_trace d.clean d.pend can d.none,
      )
