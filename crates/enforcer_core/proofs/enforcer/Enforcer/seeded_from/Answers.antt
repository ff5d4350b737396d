use Rattle.enforcer_core.proofs.Vocabulary.{ℕ, ◌≤◌, List, length, map, refl, sym, subst, arith, AllByRecursion, BoundFormula, guards_of, plan_of, AreCopies, tree_in, all_operators, AreKeptOf}
use Rattle.enforcer_core.proofs.Vocabulary.{MOST_HORIZON, WorkTogether, typed_of, placed_guard, NoneIsOver, Pend, Instance, MOST_TIME, reach_of, CanAskOf, CanAskRoots, IsPendingListOf, policy_plans}
use Rattle.enforcer_core.proofs.Vocabulary.{AreFactsOf, policy_operators}
use Rattle.plan_terms.specs.declared.plans.Plan.{Plan as StoredPlan}
use Rattle.enforcer_core.proofs.SnapshotLemmas.{all_asked, from_clock, kept_in_reach, none_over_kept, rows_rise}
use Rattle.enforcer_core.proofs.enforcer.Enforcer.seeded_from.Goals as goal

pub invariant_of-result : goal.invariant_of-result
invariant_of-result c =
    let plans = policy_plans c.args.policy in
    let guards = map placed_guard c.in_ok-past.past.guards in
    let together : WorkTogether (typed_of c.args.policy) = record {
      formed = c.plans.ensures.formed;
      later = c.plans.ensures.later;
      accepted = c.plans.ensures.accepted;
      ranked = c.plans.ensures.ranked;
    } in
    let bounded : (typed_of c.args.policy).ranked.horizon ≤ MOST_HORIZON =
    subst (λ (horizon : ℕ). horizon ≤ MOST_HORIZON) c.horizon-horizon.ensures.value c.horizon-horizon.ensures.bounded in
    let copies : AreCopies c.args.policy.guards c.in_ok-past.past.guards =
    subst (λ (l : List BoundFormula). AreCopies l c.in_ok-past.past.guards) c.guards.ensures.guards c.in_ok-past.ensures.guards in
    let roots : CanAskRoots guards plans = c.well_formed_can_be_asked.ensures.asked plans c.args.policy.guards c.in_ok-past.past.guards together.formed copies in
    let few : length plans ≤ 64 = together.formed.few in
    let instances : AllByRecursion (CanAskOf guards plans) c.in_ok-pending.pending.instances =
    subst (AllByRecursion (CanAskOf guards plans)) (sym c.in_ok-pending.ensures.instances)
    (all_asked c.nodes_have_scopes.ensures.found c.found_node_inherits.ensures.ends guards plans c.args.snapshot.clock c.args.snapshot.position c.args.snapshot.pending roots
    c.requires.bounds.pending) in
    let deadlines : IsPendingListOf plans c.in_ok-pending.pending =
    subst (λ (l : List StoredPlan). IsPendingListOf (map plan_of l) c.in_ok-pending.pending) c.plans-2.ensures.plans c.in_ok-pending.ensures.kept in (
      record {
        together = together;
        bounded = bounded;
        serves = λ on. record {
          guards = copies;
          can = λ time later. record {
            asked = record {
              few = omega (arith, few);
              roles = together.formed.roles;
              named = c.well_formed_can_be_asked.ensures.stand plans (guards_of c.args.policy.guards) together.formed;
              roots = roots;
              instances = instances;
              deadlines = deadlines;
            };
            up_to = c.in_ok-past.ensures.up_to time (from_clock c.args.snapshot.last c.args.snapshot.clock time c.requires.bounds.not_later later);
          };
          over = subst (λ (l : List Instance). NoneIsOver plans l c.args.snapshot.clock) (sym c.in_ok-pending.ensures.instances)
              (none_over_kept c.nodes_have_scopes.ensures.found plans c.args.snapshot.clock c.args.snapshot.position c.args.snapshot.pending c.requires.bounds.pending);
          in_reach = subst (λ (l : List Instance). reach_of (typed_of c.args.policy).ranked.ranks plans l ≤ MOST_TIME) (sym c.in_ok-pending.ensures.instances)
              (kept_in_reach (typed_of c.args.policy) together bounded c.args.snapshot.pending c.requires.bounds.due);
        };
      },
      subst (λ (l : List StoredPlan). AreFactsOf (map plan_of l) c.in_ok-facts.facts) c.plans.ensures.plans c.in_ok-facts.ensures,
    )

pub returns-clause-taken_up : goal.returns-clause-taken_up
returns-clause-taken_up c = record {
  policy_is = refl;
  goes_on = refl;
  as_kept = record {
    clock = refl;
    last = refl;
    position = refl;
    rising = rows_rise (policy_operators c.args.policy) c.args.snapshot.last c.args.snapshot.kept c.requires.bounds.kept;
    kept = c.in_ok-past.ensures.exact;
    pending = sym c.in_ok-pending.ensures.instances;
  };
}

pub returns-clause-stands : goal.returns-clause-stands
returns-clause-stands c = λ trace is_trace ready is. record {
  is_trace = is_trace;
  ready = ready;
  position = is.position;
  last = is.last;
  past = c.in_ok-past.ensures.stands trace is.last
      (subst (λ (l : List BoundFormula). AreKeptOf trace (all_operators (map tree_in l)) c.args.snapshot.kept) (sym c.guards.ensures.guards) is.kept);
  pending = subst (Pend (policy_plans c.args.policy) trace) (sym c.in_ok-pending.ensures.instances) is.pending;
  deadlines = subst (λ (l : List StoredPlan). IsPendingListOf (map plan_of l) c.in_ok-pending.pending) c.plans-2.ensures.plans c.in_ok-pending.ensures.kept;
}
