use Rattle.enforcer_core.proofs.Vocabulary.{ℕ, ◌≤◌, List, [], length, map, refl, sym, subst, arith, AllByRecursion, All-nil, BoundFormula, guards_of, plan_of, AreCopies, MOST_HORIZON, WorkTogether}
use Rattle.enforcer_core.proofs.Vocabulary.{typed_of, placed_guard, HasDeadline, NoneIsOver, CanAskOf, Instance, MOST_TIME, reach_of, policy_plans, AreFactsOf}
use Rattle.plan_terms.specs.declared.plans.Plan.{Plan as StoredPlan}
use Rattle.enforcer_core.proofs.enforcer.Enforcer.seeded.Goals as goal

pub invariant_of-result : goal.invariant_of-result
invariant_of-result c =
    let plans = policy_plans c.args.policy in
    let guards = map placed_guard c.in_ok-past.past.guards in
    let together : WorkTogether (typed_of c.args.policy) = record {
      formed = c.plans.ensures.formed;
      later = c.plans.ensures.later;
      accepted = c.plans.ensures.accepted;
      ranked = c.plans.ensures.ranked;
    } in
    let bounded : (typed_of c.args.policy).ranked.horizon ≤ MOST_HORIZON =
    subst (λ (horizon : ℕ). horizon ≤ MOST_HORIZON) c.horizon-horizon.ensures.value c.horizon-horizon.ensures.bounded in
    let copies : AreCopies c.args.policy.guards c.in_ok-past.past.guards =
    subst (λ (l : List BoundFormula). AreCopies l c.in_ok-past.past.guards) c.guards.ensures.guards c.in_ok-past.ensures.guards in
    let few : length plans ≤ 64 = together.formed.few in (
      record {
        together = together;
        bounded = bounded;
        serves = λ on. record {
          guards = copies;
          can = λ time later. record {
            asked = record {
              few = omega (arith, few);
              roles = together.formed.roles;
              named = c.well_formed_can_be_asked.ensures.stand plans (guards_of c.args.policy.guards) together.formed;
              roots = c.well_formed_can_be_asked.ensures.asked plans c.args.policy.guards c.in_ok-past.past.guards together.formed copies;
              instances = subst (AllByRecursion (CanAskOf guards plans)) (sym c.seeded-pending.ensures.instances) tt;
              deadlines = c.seeded-pending.ensures.kept plans;
            };
            up_to = c.in_ok-past.ensures.up_to time;
          };
          over = subst (λ (l : List Instance). NoneIsOver plans l 0) (sym c.seeded-pending.ensures.instances)
              (All-nil (λ (i : Instance). (deadline : ℕ) → HasDeadline plans i deadline → 0 ≤ deadline));
          in_reach = subst (λ (l : List Instance). reach_of (typed_of c.args.policy).ranked.ranks plans l ≤ MOST_TIME) (sym c.seeded-pending.ensures.instances) (omega arith);
        };
      },
      subst (λ (l : List StoredPlan). AreFactsOf (map plan_of l) c.in_ok-facts.facts) c.plans.ensures.plans c.in_ok-facts.ensures,
    )

pub returns-clause-stands : goal.returns-clause-stands
returns-clause-stands c = record {
  is_trace = record { distinct = λ i below. absurd (omega arith); ordered = λ i j before below. absurd (omega arith) };
  ready = record {
    clean = λ steps below. absurd (omega arith);
    pending = [];
    pend = refl;
    in_time = All-nil (λ (i : Instance). (deadline : ℕ) → HasDeadline (policy_plans c.args.policy) i deadline → 0 ≤ deadline);
    not_later = omega arith;
  };
  position = refl;
  last = refl;
  past = c.in_ok-past.ensures.stands;
  pending = c.seeded-pending.ensures.instances;
  deadlines = c.seeded-pending.ensures.kept (policy_plans c.args.policy);
}
