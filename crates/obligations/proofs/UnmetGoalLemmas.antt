-- The goals of what is pending after a trace were not met at its last position.
use Rattle.obligations.proofs.Vocabulary.{◌≡◌, ℕ, zero, suc, ◌+◌, ◌<◌, ◌≤◌, List, ◌++◌, length, Contains, Some, length-append, refl, sym, ap, subst, ◌∙◌, arith, ⊎_elim, get_or_append_left, take_all}
use Rattle.obligations.proofs.Vocabulary.{same_Some, Contains-append, AllByRecursion-from_contains, IsTrace, no_step, step_at, Valuation, no_values, Step, Plan, EventuallyPlan, UntilPlan, FoundIsFirst}
use Rattle.obligations.proofs.Vocabulary.{TriggersAreMet, StandsIn, LastIsAtTheEnd, last_time, Begun, LacksSome, time_now, last_position, After, IsNowIn, PendingAfter, PendsBehind, node_of, IsBegunBy}
use Rattle.obligations.proofs.Vocabulary.{last_events, begun_at, PlansStand, Instance}
use Rattle.obligations.proofs.GatheredLists.{BegunByRoots-contains, Gathers-contains}
use Rattle.obligations.proofs.TraceLemmas.{stands_found}
use Rattle.obligations.proofs.TriggeredNodeLemmas.{BegunOf, GoesOn, IsBegunLacking, LacksAt, after_is_reached, begun_is_named, begun_lacking, none_there, part_stands, pending_was_begun}
use Rattle.obligations.specs.machine.UnmetGoals.{IsUnmetAt, IsUnmetGoal, IsUnmetOf, PendAreUnmet}
use Rattle.obligations.specs.meaning.Pending.{Pend}

-- a front of a trace does not end after it
pub front_not_later : LastIsAtTheEnd → (trace front more : List Step) → IsTrace trace → front ++ more ≡ trace → 0 < length front
    → time_now front ≤ last_time trace
front_not_later last trace front more is_trace splits some =
    let long : length front ≤ length trace = omega (arith, ap length splits, length-append front more) in
    let at : step_at trace (last_position front) ≡ step_at front (last_position front) =
    ap (λ (l : List Step). step_at l (last_position front)) (sym splits)
    ∙ get_or_append_left front more no_step (last_position front) (omega (arith, some)) in
    let end : last_time trace ≡ (step_at trace (last_position trace)).time = last trace (last_position trace) (omega (arith, some, long)) in
    let rises = is_trace.ordered (last_position front) (last_position trace) (omega (arith, long)) (omega (arith, some, long)) in
    omega (arith, rises, end, ap (λ (s : Step). s.time) at)

module _ (first : FoundIsFirst) (met : TriggersAreMet) (last : LastIsAtTheEnd) (plans : List Plan) (stand : PlansStand plans) (trace : List Step) where
  -- the instance lacks something of its goal in its window
  abbrev LacksWithin : Instance → Type 0
  LacksWithin i = (node : Plan) × (node_of plans i ≡ Some node) × (IsNowIn trace i → LacksAt trace node i)

  lacks_here : (rule : ℕ) (plan : Plan) (i : Instance) → StandsIn plans rule plan → IsBegunLacking trace rule plan i → LacksWithin i
  lacks_here rule plan i stands (node, reached, begins, lacks) =
      (node, (begun_is_named plans (last_events trace) (time_now trace) (last_position trace) rule plan node i stands reached begins).1, λ within. lacks)

  lacks_behind : (before pending : List Instance) → PendingAfter plans trace before pending → (i : Instance) → Contains pending i → LacksWithin i
  lacks_behind before pending (kept, begun, goes, begins, are) i there = ⊎_elim
      (λ front.
      let from = Gathers-contains (After plans trace) before kept i goes front in
      ⊎_elim
      (λ (on : GoesOn plans trace from.0 i). subst LacksWithin on.0 (on.1, on.2, on.3))
      (λ (anew : BegunOf plans trace from.0 i).
      lacks_here from.0.rule anew.1 i (part_stands plans from.0.rule anew.0 anew.1 (stands_found first plans stand from.0 anew.0 anew.2) anew.3) anew.4)
      (after_is_reached met plans trace from.0 i from.2 from.3 from.4))
      (λ back.
      let root = BegunByRoots-contains trace 0 plans begun i begins back in
      let from : Begun trace root.0 root.1 no_values root.3 =
      subst (λ (r : ℕ). Begun trace r root.1 no_values root.3) {x = 0 + root.0} {y = root.0} (omega arith) root.4 in
      lacks_here root.0 root.1 i (stand root.0 root.1 root.2) (begun_lacking met trace root.0 root.1 no_values root.3 i from root.5))
      (Contains-append kept begun i (subst (λ (l : List Instance). Contains l i) are there))

  -- the last step of a trace with steps is that after which this is pending
  last_step_left : (n : ℕ) → length trace ≡ n → (pending : List Instance) → PendsBehind plans trace n pending → (i : Instance) → Contains pending i
      → (0 < length trace) × LacksWithin i
  last_step_left zero long pending none i there = absurd (none_there i pending none there)
  last_step_left (suc n) long pending (before, pend, goes) i there = (
    omega (arith, long),
    lacks_behind before pending (subst (λ (l : List Step). PendingAfter plans l before pending) (take_all (suc n) trace (omega (arith, long))) goes) i there,
  )

  module _ (is_trace : IsTrace trace) (pending : List Instance) (pend : Pend plans trace pending) (i : Instance) (there : Contains pending i) where
    some : 0 < length trace
    some = (last_step_left (length trace) refl pending pend i there).0

    now_is : time_now trace ≡ last_time trace
    now_is = sym (last trace (last_position trace) (omega (arith, some)))

    -- it was begun at a step, by its node
    was_begun_by : (node : Plan) → node_of plans i ≡ Some node
        → (front more : List Step) × (front ++ more ≡ trace) × (0 < length front) × IsBegunBy front i.rule node i
    was_begun_by node is =
        let (found, found_is, front, more, splits, has, begins) = pending_was_begun first met plans trace pending i stand pend there in
        (front, more, splits, has, subst (λ (n : Plan). IsBegunBy front i.rule n i) (same_Some found node (sym found_is ∙ is)) begins)

    opened : (front more : List Step) → front ++ more ≡ trace → 0 < length front → (number high : ℕ) (v : Valuation)
        → begun_at (time_now front) (last_position front) i.rule number 0 high v ≡ i → i.low ≤ last_time trace
    opened front more splits has number high v same =
        let not_later = front_not_later last trace front more is_trace splits has in
        omega (arith, ap (λ (j : Instance). j.low) same, not_later)

    unmet : (goal : Plan) → i.low ≤ last_time trace → (IsNowIn trace i → LacksSome trace goal i.valuation) → IsUnmetGoal trace goal i
    unmet goal begun lacks = record {
      some = some;
      lacks = λ within. lacks (omega (arith, now_is, begun), omega (arith, now_is, within));
    }

    unmet_at : (node : Plan) → node_of plans i ≡ Some node → (IsNowIn trace i → LacksAt trace node i) → IsUnmetAt trace node i
    unmet_at (EventuallyPlan node place zero high body) is lacks =
        let w = was_begun_by (EventuallyPlan node place zero high body) is in
        unmet body (opened w.0 w.1 w.2 w.3 node high w.4.0 w.4.1) lacks
    unmet_at (EventuallyPlan node place (suc low) high body) is lacks = tt
    unmet_at (UntilPlan node place zero high left right) is lacks =
        let w = was_begun_by (UntilPlan node place zero high left right) is in
        unmet right (opened w.0 w.1 w.2 w.3 node high w.4.0 w.4.1) lacks
    unmet_at (UntilPlan node place (suc low) high left right) is lacks = tt
    unmet_at node is lacks = tt

pub pending_is_unmet : FoundIsFirst → TriggersAreMet → LastIsAtTheEnd → PendAreUnmet
pending_is_unmet first met last plans trace pending stand is_trace pend = AllByRecursion-from_contains (IsUnmetOf plans trace) pending
    (λ i there node is.
    let left = (last_step_left first met last plans stand trace (length trace) refl pending pend i there).1 in
    unmet_at first met last plans stand trace is_trace pending pend i there node is
    (λ within. subst (λ (n : Plan). LacksAt trace n i) (same_Some left.0 node (sym left.1 ∙ is)) (left.2 within)))
