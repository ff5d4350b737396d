use Rattle.enforcer_core.proofs.Vocabulary.{◌+◌, ◌≤◌, List, [], ◌∷◌, Contains, map, sym, subst, arith, Event, MOST_TIME, Inserted, plan_of, WorkTogether, typed_of, ActedStep, acted_step}
use Rattle.enforcer_core.proofs.Vocabulary.{acted_steps, enforcing_at, PassesDeadlines, CanDecideAt, IsDecided, Remembered, length, length-append, length-map, ap, ◌∙◌, ◌≡◌}
use Rattle.plan_terms.specs.declared.plans.Plan.{Plan as StoredPlan}
use Rattle.enforcer_core.proofs.PassedDeadlineLemmas.{acted_more, not_before, on_err, passes_join, passes_one, within_most}
use Rattle.enforcer_core.specs.declared.steps.OutStep as made
use Rattle.enforcer_core.proofs.step_memory.Remembered.pass_each.Goals as goal

pub decide-requires-clause-can : goal.decide-requires-clause-can
decide-requires-clause-can c =
    let serves = c.loop-deadline.invariant.passes.serves in
    subst (λ (l : List StoredPlan). CanDecideAt (map plan_of l) c.loop-deadline.self c.in-Some.deadline) (sym c.plans-plans.ensures.plans)
    (serves.can c.in-Some.deadline
    (not_before c.step_laws.ensures c.args.policy.now c.loop-deadline.self c.loop-deadline.behind c.in-Some.deadline serves c.in-Some.ensures.1))

pub decide-requires-clause-in_time : goal.decide-requires-clause-in_time
decide-requires-clause-in_time c =
    let le : c.in-Some.deadline ≤ MOST_TIME =
    within_most c.step_laws.ensures c.args.policy.now c.loop-deadline.self c.loop-deadline.behind c.in-Some.deadline c.loop-deadline.invariant.passes.serves c.in-Some.ensures.1 in
    omega (arith, le)

pub decide-requires-clause-room : goal.decide-requires-clause-room
decide-requires-clause-room c =
    let few = c.loop-deadline.invariant.few in
    let position : c.loop-deadline.self.position ≡ c.args.self.now.position + length (acted_steps c.loop-deadline.steps.items) = c.loop-deadline.invariant.passes.goes_on.position in
    let room = c.requires.room in
    omega (arith, few, position, room, length-map c.loop-deadline.steps.items acted_step)

pub returns-in_err-push-clause-memory : goal.returns-in_err-push-clause-memory
returns-in_err-push-clause-memory c =
    on_err c.from_residual-in_err-push.result
    (λ none. none c.in-Some.deadline
    (subst (λ (r : Remembered). Contains r.pending.deadlines c.in-Some.deadline) (c.loop-deadline.invariant.untouched none) c.in-Some.ensures.1.0)
    c.in-Some.ensures.0)

pub overflow_add-behind : goal.overflow_add-behind
overflow_add-behind c =
    let le : c.in-Some.deadline ≤ MOST_TIME =
    within_most c.step_laws.ensures c.args.policy.now c.loop-deadline.self c.loop-deadline.behind c.in-Some.deadline c.loop-deadline.invariant.passes.serves c.in-Some.ensures.1 in
    omega (arith, le)

pub loop-deadline-smaller : goal.loop-deadline-smaller
loop-deadline-smaller c =
    let few = c.loop-deadline.invariant.few in
    let one : length c.push.new.self.items ≡ length c.loop-deadline.steps.items + 1 =
    ap length c.in_ok-push.ensures.items ∙ length-append c.loop-deadline.steps.items (c.in_ok-step.step ∷ []) in
    omega (arith, few, one)

pub loop-deadline-preserved : goal.loop-deadline-preserved
loop-deadline-preserved c =
    let policy = c.args.policy.now in
    let r = c.loop-deadline.self in
    let r' = c.decide.new.self in
    let before = enforcing_at c.args.policy.now c.args.self.now c.args.clock in
    let after = enforcing_at c.args.policy.now c.decide.new.self (c.in-Some.deadline + 1) in
    let together : WorkTogether (typed_of c.args.policy.now) = record {
      formed = c.plans-plans.ensures.formed;
      later = c.plans-plans.ensures.later;
      accepted = c.plans-plans.ensures.accepted;
      ranked = c.plans-plans.ensures.ranked;
    } in
    let decided = subst (λ (l : List StoredPlan). IsDecided (map plan_of l) c.loop-deadline.self Inserted c.in-Some.deadline [] c.in_ok-step.step c.decide.new.self) c.plans-plans.ensures.plans
    (subst (λ (events : List Event). IsDecided (map plan_of c.plans-plans.result.now) c.loop-deadline.self Inserted
    c.in-Some.deadline events c.in_ok-step.step c.decide.new.self) c.new-none.ensures
    c.in_ok-step.ensures.decided) in
    let one = passes_one c.step_laws.ensures policy together r r' c.loop-deadline.behind c.in-Some.deadline c.args.until c.in_ok-step.step c.loop-deadline.invariant.passes.serves
    c.in-Some.ensures.0 c.in-Some.ensures.1 decided
    (λ time later. subst (λ (l : List StoredPlan). CanDecideAt (map plan_of l) c.decide.new.self time) c.plans-plans.ensures.plans (c.in_ok-step.ensures.can time later)) in
    record {
      passes = subst (λ (l : List made.OutStep). PassesDeadlines c.args.until before (acted_steps l) after) (sym c.in_ok-push.ensures.items)
          (subst (λ (l : List ActedStep). PassesDeadlines c.args.until before l after) (sym (acted_more c.loop-deadline.steps.items c.in_ok-step.step))
          (passes_join c.step_laws.ensures policy c.args.self.now r r' c.args.clock c.loop-deadline.behind (c.in-Some.deadline + 1) c.args.until
          (acted_steps c.loop-deadline.steps.items) (acted_step c.in_ok-step.step ∷ []) c.loop-deadline.invariant.passes one));
      few =
          let few = c.if-len-ge-MOST_INSERTED.false in
          let one : length c.push.new.self.items ≡ length c.loop-deadline.steps.items + 1 =
          ap length c.in_ok-push.ensures.items ∙ length-append c.loop-deadline.steps.items (c.in_ok-step.step ∷ []) in
          omega (arith, few, one);
      untouched = λ none. absurd (none c.in-Some.deadline
          (subst (λ (r : Remembered). Contains r.pending.deadlines c.in-Some.deadline) (c.loop-deadline.invariant.untouched none) c.in-Some.ensures.1.0)
          c.in-Some.ensures.0);
    }
