use Rattle.enforcer_core.proofs.Vocabulary.{◌≡◌, ◌∙◌, ℕ, ◌≤◌, Bool, false, List, [], Contains, Option, Some, None, is_some, map, sym, subst, true≢false, MOST_HORIZON, StepRecord, System, plan_of}
use Rattle.enforcer_core.proofs.Vocabulary.{arith, WorkTogether, typed_of, IsPassed, acted_steps, enforcing_at, IsLeastPassed, LetsOut, NoneIsLeft, CanDecideAt, IsDecided}
use Rattle.plan_terms.specs.declared.plans.Plan.{Plan as StoredPlan}
use Rattle.enforcer_core.proofs.RecordLemmas.{step_out}
use Rattle.enforcer_core.proofs.PassedDeadlineLemmas.{passes_none}
use Rattle.enforcer_core.specs.declared.steps.OutStep as made
use Rattle.enforcer_core.proofs.step_memory.Remembered.let_out.Goals as goal

-- where none is found, none is passed
none_passed : (deadlines : List ℕ) (until found : Option ℕ) (any : Bool) → any ≡ is_some found → any ≡ false
    → IsLeastPassed deadlines until found → (deadline : ℕ) → Contains deadlines deadline → IsPassed until deadline → ⊥
none_passed deadlines until None any is none least = least
none_passed deadlines until (Some d) any is none least = absurd (true≢false (sym is ∙ none))

pub decide-requires-clause-can : goal.decide-requires-clause-can
decide-requires-clause-can c =
    subst (λ (l : List StoredPlan). CanDecideAt (map plan_of l) c.args.self.now c.args.time) (sym c.plans-plans.ensures.plans)
    (c.requires.serves.can c.args.time c.requires.not_over)

pub returns : goal.returns
returns c =
    let before = enforcing_at c.args.policy.now c.args.self.now c.args.clock in
    let after = enforcing_at c.args.policy.now c.decide.new.self c.args.time in
    let together : WorkTogether (typed_of c.args.policy.now) = record {
      formed = c.plans-plans.ensures.formed;
      later = c.plans-plans.ensures.later;
      accepted = c.plans-plans.ensures.accepted;
      ranked = c.plans-plans.ensures.ranked;
    } in
    let bounded : (typed_of c.args.policy.now).ranked.horizon ≤ MOST_HORIZON =
    subst (λ (horizon : ℕ). horizon ≤ MOST_HORIZON) c.horizon-horizon.ensures.value c.horizon-horizon.ensures.bounded in
    let decided = subst (λ (l : List StoredPlan). IsDecided (map plan_of l) c.args.self.now System c.args.time c.args.events c.in_ok-step.step c.decide.new.self) c.plans-plans.ensures.plans
    c.in_ok-step.ensures.decided in
    let none_left : NoneIsLeft (Some c.args.time) before =
    none_passed c.args.self.now.pending.deadlines (Some c.args.time) c.passed.result c.is_some.result c.is_some.ensures c.if-is_some.false c.passed.ensures in
    let out = step_out c.step_laws.ensures c.args.policy.now c.args.self.now c.args.self.now c.args.clock c.args.clock c.args.time c.requires.not_over
    [] (passes_none c.args.policy.now c.args.self.now c.args.clock (Some c.args.time) c.requires.serves) none_left (omega arith) together bounded c.requires.in_time
    c.decide.new.self c.args.events c.as_slice-given.ensures.distinct c.in_ok-step.step decided
    (λ time later. subst (λ (l : List StoredPlan). CanDecideAt (map plan_of l) c.decide.new.self time) c.plans-plans.ensures.plans (c.in_ok-step.ensures.can time later)) in
    subst (λ (l : List made.OutStep). LetsOut before (StepRecord (record { time = c.args.time; events = c.args.events })) (acted_steps l) after)
    (sym c.one.ensures) out
