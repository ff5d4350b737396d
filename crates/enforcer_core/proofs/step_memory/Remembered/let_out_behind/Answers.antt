use Rattle.enforcer_core.proofs.Vocabulary.{ℕ, ◌≤◌, List, map, sym, subst, MOST_HORIZON, StepRecord, System, plan_of, WorkTogether, typed_of, ActedStep, acted_steps, enforcing_at, LetsOut}
use Rattle.enforcer_core.proofs.Vocabulary.{CanDecideAt, IsDecided, acted_step, arith, length-map}
use Rattle.plan_terms.specs.declared.plans.Plan.{Plan as StoredPlan}
use Rattle.enforcer_core.proofs.RecordLemmas.{step_out}
use Rattle.enforcer_core.proofs.PassedDeadlineLemmas.{acted_more}
use Rattle.enforcer_core.proofs.step_memory.Remembered.let_out_behind.Goals as goal

pub decide-requires-clause-can : goal.decide-requires-clause-can
decide-requires-clause-can c =
    let passes = c.in_ok-steps.ensures.passes in
    subst (λ (l : List StoredPlan). CanDecideAt (map plan_of l) c.pass_each.new.self c.args.time) (sym c.plans-plans.ensures.plans)
    (passes.serves.can c.args.time (passes.within.in_time c.args.time c.requires.not_over (λ deadline passed. passed)))

pub returns : goal.returns
returns c =
    let steps = c.in_ok-steps.field-0.steps.items in
    let before = enforcing_at c.args.policy.now c.args.self.now c.args.clock in
    let after = enforcing_at c.args.policy.now c.decide.new.self c.args.time in
    let together : WorkTogether (typed_of c.args.policy.now) = record {
      formed = c.plans-plans.ensures.formed;
      later = c.plans-plans.ensures.later;
      accepted = c.plans-plans.ensures.accepted;
      ranked = c.plans-plans.ensures.ranked;
    } in
    let bounded : (typed_of c.args.policy.now).ranked.horizon ≤ MOST_HORIZON =
    subst (λ (horizon : ℕ). horizon ≤ MOST_HORIZON) c.horizon-horizon.ensures.value c.horizon-horizon.ensures.bounded in
    let decided = subst (λ (l : List StoredPlan). IsDecided (map plan_of l) c.pass_each.new.self System c.args.time c.args.events c.in_ok-step.step c.decide.new.self) c.plans-plans.ensures.plans
    c.in_ok-step.ensures.decided in
    let out = step_out c.step_laws.ensures c.args.policy.now c.args.self.now c.pass_each.new.self c.args.clock c.in_ok-steps.field-0.clock c.args.time c.requires.not_over
    (acted_steps c.in_ok-steps.field-0.steps.items) c.in_ok-steps.ensures.passes c.in_ok-steps.ensures.none_left
    (let few = c.in_ok-steps.ensures.few in omega (arith, few, length-map c.in_ok-steps.field-0.steps.items acted_step)) together bounded c.requires.in_time
    c.decide.new.self c.args.events c.as_slice-given.ensures.distinct c.in_ok-step.step decided
    (λ time later. subst (λ (l : List StoredPlan). CanDecideAt (map plan_of l) c.decide.new.self time) c.plans-plans.ensures.plans (c.in_ok-step.ensures.can time later)) in
    rw c.in_ok-out.ensures
    (subst (λ (l : List ActedStep). LetsOut before (StepRecord (record { time = c.args.time; events = c.args.events })) l after)
    (sym (acted_more c.in_ok-steps.field-0.steps.items c.in_ok-step.step)) out)
