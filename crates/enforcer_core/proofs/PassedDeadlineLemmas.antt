-- What is emitted at deadlines that are passed: one step, steps after one another, and none.
use Rattle.enforcer_core.proofs.Vocabulary.{◌≡◌, ℕ, ◌+◌, ◌≤◌, List, [], ◌∷◌, ◌++◌, length-append, refl, sym, ap, subst, ◌∙◌, append_assoc, arith, Option, Some, Result, Ok, Err, OnErr, append-nil}
use Rattle.enforcer_core.proofs.Vocabulary.{map-append, All-append, All-cons, All-contains, All-head, All-nil, All-tail, All-weaker, Step, last_time, StepKind, Inserted, System, MOST_TIME, AreCopies}
use Rattle.enforcer_core.proofs.Vocabulary.{Plan, StoredTyped, WorkTogether, typed_of, HasDeadline, NoneIsOver, IsLeastOf, Instance, ActedStep, steps_of, GoesOut, InsertsSteps, IsLeastDeadline}
use Rattle.enforcer_core.proofs.Vocabulary.{IsPassed, NoneIsPassed, steps_behind, RiseWithin, RisesBy, clock_drained, Enforcing, policy_plans, acted_step, acted_steps, IsServing, enforcing_at}
use Rattle.enforcer_core.proofs.Vocabulary.{reach_in, NoneIsLeft, PassesDeadlines, CanDecideAt, IsDecided, RemembersTrace, Stands, StepLaws, Remembered, All}
use Rattle.enforcer_core.proofs.LawfulChangeLemmas.{changes_join, inserted_changes, none_changes}
use Rattle.enforcer_core.proofs.StepLemmas.{deadline_listed, least_is, stands_behind}
use Rattle.enforcer_core.specs.declared.steps.OutStep as made

-- ---- steps after steps

drained_join : (clock : ℕ) (out more : List ActedStep)
    → clock_drained clock (out ++ more) ≡ clock_drained (clock_drained clock out) more
drained_join clock [] more = refl
drained_join clock (o ∷ out) more = drained_join (o.step.time + 1) out more

-- ---- rising times

rises_weaker : (kind : StepKind) (from until later time : ℕ) (P Q : ℕ → Type 0) → from ≤ until → until ≤ later
    → ((next : ℕ) → next ≤ until → P next → Q next) → RisesBy kind from until time P → RisesBy kind from later time Q
rises_weaker Inserted from until later time P Q le then weaker (after, before, rest) =
    (after, omega (arith, before, then), weaker (time + 1) (omega (arith, before)) rest)
rises_weaker System from until later time P Q le then weaker rest = weaker from le rest

rises_earlier : (kind : StepKind) (earlier from until time : ℕ) (P : ℕ → Type 0) → earlier ≤ from
    → (P from → P earlier) → RisesBy kind from until time P → RisesBy kind earlier until time P
rises_earlier Inserted earlier from until time P le weaker (after, before, rest) = (omega (arith, le, after), before, rest)
rises_earlier System earlier from until time P le weaker rest = weaker rest

rise_earlier : (earlier from until : ℕ) (out : List ActedStep) → earlier ≤ from → RiseWithin from until out
    → RiseWithin earlier until out
rise_earlier earlier from until [] le rise = tt
rise_earlier earlier from until (o ∷ out) le rise =
    rises_earlier o.kind earlier from until o.step.time (λ next. RiseWithin next until out) le (rise_earlier earlier from until out le) rise

pub rise_join : (from middle until : ℕ) (out more : List ActedStep) → from ≤ middle → middle ≤ until
    → RiseWithin from middle out → RiseWithin middle until more → RiseWithin from until (out ++ more)
rise_join from middle until [] more le then rise rest = rise_earlier from middle until more le rest
rise_join from middle until (o ∷ out) more le then rise rest =
    rises_weaker o.kind from middle until o.step.time (λ next. RiseWithin next middle out) (λ next. RiseWithin next until (out ++ more)) le then
    (λ next before others. rise_join next middle until out more before then others rest) rise

rises_below : (kind : StepKind) (from until most time : ℕ) (P Q : ℕ → Type 0) → time ≤ most → ((next : ℕ) → P next → Q next)
    → RisesBy kind from until time P → RisesBy kind from (most + 1) time Q
rises_below Inserted from until most time P Q le weaker (after, before, rest) = (after, omega (arith, le), weaker (time + 1) rest)
rises_below System from until most time P Q le weaker rest = weaker from rest

pub rise_below : (from until most : ℕ) (out : List ActedStep) → RiseWithin from until out → All (λ (o : ActedStep). o.step.time ≤ most) out
    → RiseWithin from (most + 1) out
rise_below from until most [] rise bounded = tt
rise_below from until most (o ∷ out) rise bounded =
    rises_below o.kind from until most o.step.time (λ next. RiseWithin next until out) (λ next. RiseWithin next (most + 1) out)
    (All-head (λ (o : ActedStep). o.step.time ≤ most) o out bounded)
    (λ next others. rise_below next until most out others (All-tail (λ (o : ActedStep). o.step.time ≤ most) o out bounded)) rise

-- ---- what stays over several passes

module _ (laws : StepLaws) (policy : StoredTyped) (a b c : Remembered) (from middle to : ℕ) (until : Option ℕ)
    (out more : List ActedStep) where
  abbrev first : Enforcing
  first = enforcing_at policy a from

  abbrev second : Enforcing
  second = enforcing_at policy b middle

  abbrev third : Enforcing
  third = enforcing_at policy c to

  pub passes_join : PassesDeadlines until first out second → PassesDeadlines until second more third → PassesDeadlines until first (out ++ more) third
  passes_join one two = record {
    serves = two.serves;
    goes_on = record {
      policy = refl;
      clock_is = two.goes_on.clock_is ∙ ap (λ (clock : ℕ). clock_drained clock more) one.goes_on.clock_is ∙ sym (drained_join from out more);
      position = let at = one.goes_on.position in let then = two.goes_on.position in omega (arith, at, then, length-append out more);
      goes_on = refl;
    };
    within = record {
      rises = let le = one.within.rises in let then = two.within.rises in omega (arith, le, then);
      reach = let le = one.within.reach in let then = two.within.reach in omega (arith, le, then);
      in_time = λ limit le below. two.within.in_time limit (one.within.in_time limit le below) below;
      in_reach = λ limit le below. two.within.in_reach limit (one.within.in_reach limit le below)
          (let less = one.within.reach in omega (arith, less, below));
    };
    rising = rise_join from middle to out more one.within.rises two.within.rises one.rising two.rising;
    bounded = All-append (λ (o : ActedStep). o.step.time ≤ reach_in first) out more one.bounded
        (All-weaker (λ (o : ActedStep). o.step.time ≤ reach_in second) (λ (o : ActedStep). o.step.time ≤ reach_in first)
        (λ o le. let less = one.within.reach in omega (arith, le, less)) more two.bounded);
    stands = λ trace stands. subst (Stands third) (steps_behind trace out more) (two.stands (trace ++ steps_of out) (one.stands trace stands));
    changed = changes_join laws.within laws.lawful (policy_plans policy) from middle to [] [] out more one.within.rises two.within.rises one.changed two.changed;
    inserts = λ trace stands rest inserts.
        subst (InsertsSteps (policy_plans policy) trace until) (sym (append_assoc out more rest))
        (one.inserts trace stands (more ++ rest)
        (two.inserts (trace ++ steps_of out) (one.stands trace stands) rest
        (subst (λ (steps : List Step). InsertsSteps (policy_plans policy) steps until rest) (sym (steps_behind trace out more)) inserts)));
  }

pub passes_none : (policy : StoredTyped) (r : Remembered) (clock : ℕ) (until : Option ℕ) → IsServing (enforcing_at policy r clock)
    → PassesDeadlines until (enforcing_at policy r clock) [] (enforcing_at policy r clock)
passes_none policy r clock until serves = record {
  serves = serves;
  goes_on = record { policy = refl; clock_is = refl; position = omega arith; goes_on = refl };
  within = record {
    rises = omega arith;
    reach = omega arith;
    in_time = λ limit le below. le;
    in_reach = λ limit le below. le;
  };
  rising = tt;
  bounded = All-nil (λ (o : ActedStep). o.step.time ≤ reach_in (enforcing_at policy r clock));
  stands = λ trace stands. subst (Stands (enforcing_at policy r clock)) (sym (append-nil trace)) stands;
  changed = none_changes (policy_plans policy) clock clock [] refl;
  inserts = λ trace stands rest inserts. subst (λ (steps : List Step). InsertsSteps (policy_plans policy) steps until rest) (append-nil trace) inserts;
}

-- ---- one step at the least deadline

module _ (laws : StepLaws) (policy : StoredTyped) (r : Remembered) (clock deadline : ℕ) (serves : IsServing (enforcing_at policy r clock))
    (least : IsLeastOf r.pending.deadlines (Some deadline)) where
  is_least : IsLeastDeadline (policy_plans policy) r.pending.instances deadline
  is_least = least_is (policy_plans policy) r.pending deadline (serves.can clock (omega arith)).asked.deadlines least

  pub not_before : clock ≤ deadline
  not_before =
      All-contains (λ (i : Instance). (d : ℕ) → HasDeadline (policy_plans policy) i d → clock ≤ d) r.pending.instances is_least.instance
      serves.over is_least.there deadline is_least.is

  reached : deadline ≤ reach_in (enforcing_at policy r clock)
  reached = laws.reached (typed_of policy).ranked.ranks (policy_plans policy) r.pending.instances is_least.instance deadline is_least.there is_least.is

  pub within_most : deadline ≤ MOST_TIME
  within_most = let le = reached in let bound = serves.in_reach in omega (arith, le, bound)

module _ (laws : StepLaws) (policy : StoredTyped) (together : WorkTogether (typed_of policy)) (r r' : Remembered) (clock deadline : ℕ)
    (until : Option ℕ) (o : made.OutStep) (serves : IsServing (enforcing_at policy r clock)) (passed : IsPassed until deadline)
    (least : IsLeastOf r.pending.deadlines (Some deadline)) (decided : IsDecided (policy_plans policy) r Inserted deadline [] o r')
    (can : (time : ℕ) → deadline ≤ time → CanDecideAt (policy_plans policy) r' time) where
  abbrev plans : List Plan
  plans = policy_plans policy

  abbrev before : Enforcing
  before = enforcing_at policy r clock

  abbrev after : Enforcing
  after = enforcing_at policy r' (deadline + 1)

  least_one : IsLeastDeadline plans r.pending.instances deadline
  least_one = is_least laws policy r clock deadline serves least

  from_clock : clock ≤ deadline
  from_clock = not_before laws policy r clock deadline serves least

  of_trace : (trace : List Step) → Stands before trace → RemembersTrace plans r trace
  of_trace trace stands = record {
    is_trace = stands.is_trace;
    position = stands.position;
    last = stands.last;
    past = stands.past;
    pending = stands.pending;
  }

  not_later : (trace : List Step) → Stands before trace → last_time trace ≤ deadline
  not_later trace stands = let last = stands.ready.not_later in let le = from_clock in omega (arith, last, le)

  goes : (trace : List Step) → Stands before trace → GoesOut plans trace Inserted deadline [] (acted_step o)
  goes trace stands = decided.goes_out trace (of_trace trace stands) (not_later trace stands)

  remembers : (trace : List Step) → Stands before trace → RemembersTrace plans r' (trace ++ (acted_step o).step ∷ [])
  remembers trace stands = decided.remembers trace (of_trace trace stands) (not_later trace stands)

  falls : NoneIsOver plans r'.pending.instances (deadline + 1) × (reach_in after ≤ reach_in before)
  falls = laws.led (typed_of policy) r.pending.instances r'.pending.instances deadline r.position o.actions o.events together least_one.least
      decided.acts decided.asked decided.leads

  stands_one : (trace : List Step) → Stands before trace → Stands after (trace ++ (acted_step o).step ∷ [])
  stands_one trace stands =
      stands_behind laws policy r r' clock deadline (deadline + 1) from_clock (omega arith) Inserted [] (acted_step o) trace stands
      (laws.windows (typed_of policy) trace r.pending.instances together stands.pending) least_one.least (goes trace stands) decided.distinct
      (remembers trace stands) decided.deadlines falls.0

  pub passes_one : PassesDeadlines until before (acted_step o ∷ []) after
  passes_one =
      let le = from_clock in let reach = reached laws policy r clock deadline serves least in let less = falls.1 in
      let at = decided.time_is in let position = decided.position in let bound = serves.in_reach in
      record {
        serves = record {
          guards = subst (AreCopies policy.guards) (sym decided.guards) serves.guards;
          can = λ time later. can time (omega (arith, later));
          over = falls.0;
          in_reach = omega (arith, less, bound);
        };
        goes_on = record { policy = refl; clock_is = omega (arith, at); position = omega (arith, position); goes_on = refl };
        within = record {
          rises = omega (arith, le);
          reach = less;
          in_time = λ limit from below. let over = below deadline passed in omega (arith, over);
          in_reach = λ limit from below. omega (arith, reach, below);
        };
        rising = subst (λ (kind : StepKind). RisesBy kind clock (deadline + 1) o.time (λ next. RiseWithin next (deadline + 1) [])) (sym decided.kind_is)
            (omega (arith, le, at), omega (arith, at), tt);
        bounded = All-cons (λ (p : ActedStep). p.step.time ≤ reach_in before) (acted_step o) [] (omega (arith, reach, at))
            (All-nil (λ (p : ActedStep). p.step.time ≤ reach_in before));
        stands = stands_one;
        changed = inserted_changes laws.leads laws.once laws.causes plans together.formed.roles clock deadline le (acted_step o) decided.kind_is at decided.acts;
        inserts = λ trace stands more inserts.
            (deadline, (r.pending.instances, stands.pending, least_one), passed, goes trace stands, inserts);
      }

-- ---- where none is left

none_passed : (policy : StoredTyped) (r : Remembered) (clock : ℕ) (until : Option ℕ) (trace : List Step)
    → Stands (enforcing_at policy r clock) trace → NoneIsLeft until (enforcing_at policy r clock)
    → NoneIsPassed (policy_plans policy) r.pending.instances until
none_passed policy r clock until trace stands none i deadline there has passed =
    none deadline (deadline_listed (policy_plans policy) r.pending i deadline stands.deadlines there has) passed

pub passes_all : (policy : StoredTyped) (r r' : Remembered) (clock later : ℕ) (until : Option ℕ) (out : List ActedStep)
    → PassesDeadlines until (enforcing_at policy r clock) out (enforcing_at policy r' later)
    → NoneIsLeft until (enforcing_at policy r' later) → (trace : List Step) → Stands (enforcing_at policy r clock) trace
    → InsertsSteps (policy_plans policy) trace until out
passes_all policy r r' clock later until out passes none trace stands =
    let then : Stands (enforcing_at policy r' later) (trace ++ steps_of out) = passes.stands trace stands in
    subst (InsertsSteps (policy_plans policy) trace until) (append-nil out)
    (passes.inserts trace stands [] (r'.pending.instances, then.pending, none_passed policy r' later until (trace ++ steps_of out) then none))

-- ---- in the program's words

-- a step more in a list of steps
pub acted_more : (steps : List made.OutStep) (step : made.OutStep)
    → acted_steps (steps ++ step ∷ []) ≡ acted_steps steps ++ acted_step step ∷ []
acted_more steps step = map-append acted_step steps (step ∷ [])

pub on_err : {T E P : Type 0} (r : Result T E) → P → OnErr r P
on_err (Ok x) p = tt
on_err (Err e) p = p
