-- An enforcer as what it remembers at its clock, and what its answers say of it.
use Rattle.enforcer_core.proofs.Vocabulary.{◌≡◌, ℕ, ◌+◌, ◌≤◌, Bool, false, List, [], ◌∷◌, ◌++◌, map, refl, sym, ap, subst, ◌∙◌, arith, All, None, Contains, length-map, All-weaker, here, Step}
use Rattle.enforcer_core.proofs.Vocabulary.{placed_guard, PendingIsEnough, MOST_TIME, IsPendingListOf, StoredTyped, WorkTogether, typed_of, Record, time_of, ActedStep, steps_of, AreDistinct}
use Rattle.enforcer_core.proofs.Vocabulary.{EnforcerDrains, Enforcing, policy_plans, acted_step, acted_steps, FollowsDrainFrom, FollowsFrom, IsJustifiedFrom, SatisfiesBehind, Stands, DrainIsJustified}
use Rattle.enforcer_core.proofs.Vocabulary.{FollowsIsJustified, IsServing, enforcing_at, reach_in, NoneIsLeft, PassesDeadlines, StepLaws, Remembered, length, most_inserted}
use Rattle.enforcer_core.proofs.StepLemmas.{deadline_listed}
use Rattle.enforcer_core.proofs.DrainLemmas.{drained_satisfies}
use Rattle.enforcer_core.proofs.ReachLemmas.{reach_later}
use Rattle.enforcer_core.proofs.PassedDeadlineLemmas.{passes_all, rise_below}
use Rattle.enforcer_core.specs.declared.steps.OutStep as made

-- ---- one that goes on

abbrev pub seen : StoredTyped → Remembered → ℕ → Bool → Enforcing
seen policy r clock stopped = record (enforcing_at policy r clock) { stopped = stopped }

pub serving : (policy : StoredTyped) (r : Remembered) (clock : ℕ) (stopped : Bool) → stopped ≡ false
    → IsServing (seen policy r clock stopped) → IsServing (enforcing_at policy r clock)
serving policy r clock stopped on serves = subst (λ (b : Bool). IsServing (seen policy r clock b)) on serves

pub going : (policy : StoredTyped) (r : Remembered) (clock : ℕ) (stopped : Bool) (e : Enforcing) → stopped ≡ false
    → seen policy r clock stopped ≡ e → enforcing_at policy r clock ≡ e
going policy r clock stopped e on is = ap (λ (b : Bool). seen policy r clock b) (sym on) ∙ is

-- ---- what it lets out is justified

pub records_justified : FollowsIsJustified → (e : Enforcing) → WorkTogether (typed_of e.policy) → (next : Record) → e.clock ≤ time_of next
    → AreDistinct (next ∷ []) → (out : List ActedStep) → FollowsFrom e (next ∷ []) out → IsJustifiedFrom e (next ∷ []) out
records_justified justified e together next later distinct out follows trace stands =
    justified (typed_of e.policy) trace e.clock (next ∷ []) out together stands.is_trace stands.ready (later, tt) distinct (follows trace stands)

pub drain_justified : DrainIsJustified → (e : Enforcing) → WorkTogether (typed_of e.policy) → (out : List ActedStep)
    → FollowsDrainFrom e out → IsJustifiedFrom e [] out
drain_justified justified e together out drains trace stands =
    justified (typed_of e.policy) trace e.clock out together stands.is_trace stands.ready (drains trace stands)

-- its policy's plans can work together, as they are seen
pub works_seen : (policy : StoredTyped) (r : Remembered) (clock : ℕ) (stopped : Bool) (e : Enforcing) → seen policy r clock stopped ≡ e
    → WorkTogether (typed_of policy) → WorkTogether (typed_of e.policy)
works_seen policy r clock stopped e is together = subst (λ (e : Enforcing). WorkTogether (typed_of e.policy)) is together

-- ---- a drain

no_items : (deadlines : List ℕ) → ((deadline : ℕ) → Contains deadlines deadline → ⊥) → deadlines ≡ []
no_items [] none = refl
no_items (deadline ∷ deadlines) none = absurd (none deadline (here deadline deadlines))

module _ (policy : StoredTyped) (r r' : Remembered) (clock later : ℕ) (out : List ActedStep)
    (passes : PassesDeadlines None (enforcing_at policy r clock) out (enforcing_at policy r' later))
    (none : NoneIsLeft None (enforcing_at policy r' later)) where
  drain_serves_all : r'.pending.deadlines ≡ []
  drain_serves_all = no_items r'.pending.deadlines (λ deadline there. none deadline there tt)

  pub drain_follows : FollowsDrainFrom (enforcing_at policy r clock) out
  drain_follows trace stands = passes_all policy r r' clock later None out passes none trace stands

  drain_satisfies : PendingIsEnough → SatisfiesBehind (enforcing_at policy r clock) out
  drain_satisfies enough trace stands =
      let then : Stands (enforcing_at policy r' later) (trace ++ steps_of out) = passes.stands trace stands in
      let can = (passes.serves.can later (omega arith)).asked in
      drained_satisfies enough (map placed_guard r'.past.guards) (policy_plans policy) (trace ++ steps_of out) r'.pending.instances
      can.named then.is_trace then.ready.clean then.pending can.instances
      (λ i deadline there has. none deadline (deadline_listed (policy_plans policy) r'.pending i deadline then.deadlines there has) tt)

  -- it is over within the horizon
  pub drain_ends : StepLaws → WorkTogether (typed_of policy) → (trace : List Step) → Stands (enforcing_at policy r clock) trace
      → later ≤ clock + (typed_of policy).ranked.horizon + 1
  drain_ends laws together trace stands =
      let reach = laws.horizon (typed_of policy) trace r.pending.instances clock together stands.is_trace stands.pending stands.ready.not_later in
      passes.within.in_reach (clock + (typed_of policy).ranked.horizon + 1) (omega arith) (omega (arith, reach))

  -- whatever it stands for, within the horizon of what is pending
  pub drain_within : WorkTogether (typed_of policy) → IsPendingListOf (policy_plans policy) r.pending → (last : ℕ)
      → ((deadline : ℕ) → Contains r.pending.deadlines deadline → deadline ≤ last)
      → All (λ (o : ActedStep). o.step.time ≤ last + (typed_of policy).ranked.horizon) out
  drain_within together keeps last until =
      let reach = reach_later (typed_of policy) together r.pending.instances last
      (λ i there deadline has. until deadline (deadline_listed (policy_plans policy) r.pending i deadline keeps there has)) in
      All-weaker (λ (o : ActedStep). o.step.time ≤ reach_in (enforcing_at policy r clock)) (λ (o : ActedStep). o.step.time ≤ last + (typed_of policy).ranked.horizon)
      (λ o le. omega (arith, le, reach)) out passes.bounded

  drain_bounded : IsServing (enforcing_at policy r clock) → All (λ (o : ActedStep). o.step.time ≤ MOST_TIME) out
  drain_bounded serves =
      let bound = serves.in_reach in
      All-weaker (λ (o : ActedStep). o.step.time ≤ reach_in (enforcing_at policy r clock)) (λ (o : ActedStep). o.step.time ≤ MOST_TIME)
      (λ o le. omega (arith, le, bound)) out passes.bounded

-- in the program's words
pub drains : (policy : StoredTyped) (r r' : Remembered) (clock later : ℕ) (steps : List made.OutStep)
    → PassesDeadlines None (enforcing_at policy r clock) (acted_steps steps) (enforcing_at policy r' later)
    → NoneIsLeft None (enforcing_at policy r' later) → length steps ≤ most_inserted → PendingIsEnough → IsServing (enforcing_at policy r clock)
    → EnforcerDrains (enforcing_at policy r clock) (record { steps = steps }) (enforcing_at policy r' later)
drains policy r r' clock later steps passes none few enough serves =
    let out = acted_steps steps in
    record {
      going = refl;
      goes_on = record {
        policy = passes.goes_on.policy;
        clock_is = passes.goes_on.clock_is;
        position = let at = passes.goes_on.position in omega (arith, at, length-map steps acted_step);
        goes_on = passes.goes_on.goes_on;
      };
      few = omega (arith, few);
      rising = rise_below clock later MOST_TIME out passes.rising (drain_bounded policy r r' clock later out passes none serves);
      stands = passes.stands;
      changed = passes.changed;
      decided = drain_follows policy r r' clock later out passes none;
      served = drain_serves_all policy r r' clock later out passes none;
      satisfied = drain_satisfies policy r r' clock later out passes none enough;
    }
