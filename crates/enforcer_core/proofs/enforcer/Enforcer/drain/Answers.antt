use Rattle.enforcer_core.proofs.Vocabulary.{◌+◌, ◌≤◌, ℕ, All, false, Contains, subst, sym, arith, ActedStep, typed_of, EnforcerDrains, Enforcing, acted_steps, FollowsDrainFrom, Stands}
use Rattle.enforcer_core.proofs.EnforcerLemmas.{drain_ends, drain_follows, drain_justified, drain_within, drains, going, seen, serving, works_seen}
use Rattle.enforcer_core.proofs.TransparencyLemmas.{drain_alone}
use Rattle.enforcer_core.proofs.enforcer.Enforcer.drain.Goals as goal

pub pass-requires-clause-serves : goal.pass-requires-clause-serves
pass-requires-clause-serves c =
    serving c.self.inside.policy c.self.inside.remembered c.self.inside.clock c.self.inside.stopped c.if-self.false (c.self.invariant.0.serves c.if-self.false)

pub invariant_of-self-2 : goal.invariant_of-self-2
invariant_of-self-2 c =
    (record { together = c.self.invariant.0.together; bounded = c.self.invariant.0.bounded; serves = λ on. c.in_ok-steps.ensures.passes.serves }, c.self.invariant.1)

pub returns-clause-drains : goal.returns-clause-drains
returns-clause-drains c =
    let after : Enforcing = seen c.self.inside.policy c.pass.new.self c.in_ok-steps.field-0.clock false in
    rw c.from_vec.ensures
    (subst (λ (e : Enforcing). EnforcerDrains e (record { steps = c.in_ok-steps.field-0.steps.items }) after)
    (going c.self.inside.policy c.self.inside.remembered c.self.inside.clock c.self.inside.stopped c.args.self.now c.if-self.false c.self.view_is)
    (drains c.self.inside.policy c.self.inside.remembered c.pass.new.self c.self.inside.clock c.in_ok-steps.field-0.clock c.in_ok-steps.field-0.steps.items
    c.in_ok-steps.ensures.passes c.in_ok-steps.ensures.none_left c.in_ok-steps.ensures.few c.pending_is_enough.ensures.enough
    (serving c.self.inside.policy c.self.inside.remembered c.self.inside.clock c.self.inside.stopped
    c.if-self.false (c.self.invariant.0.serves c.if-self.false))))

pub returns-clause-latest : goal.returns-clause-latest
returns-clause-latest c =
    rw c.from_vec.ensures
    (subst (λ (e : Enforcing). (last : ℕ) → ((deadline : ℕ) → Contains e.pending.deadlines deadline → deadline ≤ last)
    → All (λ (o : ActedStep). o.step.time ≤ last + (typed_of e.policy).ranked.horizon) (acted_steps c.in_ok-steps.field-0.steps.items)) c.self.view_is
    (drain_within c.self.inside.policy c.self.inside.remembered c.pass.new.self c.self.inside.clock c.in_ok-steps.field-0.clock (acted_steps c.in_ok-steps.field-0.steps.items)
    c.in_ok-steps.ensures.passes c.in_ok-steps.ensures.none_left c.self.invariant.0.together
    ((serving c.self.inside.policy c.self.inside.remembered c.self.inside.clock c.self.inside.stopped c.if-self.false
    (c.self.invariant.0.serves c.if-self.false)).can c.self.inside.clock (omega arith)).asked.deadlines))

pub returns-clause-horizon : goal.returns-clause-horizon
returns-clause-horizon c = λ trace stands.
    subst (λ (e : Enforcing). c.in_ok-steps.field-0.clock ≤ e.clock + (typed_of e.policy).ranked.horizon + 1) c.self.view_is
    (drain_ends c.self.inside.policy c.self.inside.remembered c.pass.new.self c.self.inside.clock c.in_ok-steps.field-0.clock (acted_steps c.in_ok-steps.field-0.steps.items)
    c.in_ok-steps.ensures.passes c.in_ok-steps.ensures.none_left c.step_laws.ensures c.self.invariant.0.together trace
    (subst (λ (e : Enforcing). Stands e trace)
    (sym (going c.self.inside.policy c.self.inside.remembered c.self.inside.clock c.self.inside.stopped c.args.self.now c.if-self.false c.self.view_is)) stands))

pub returns-clause-justified : goal.returns-clause-justified
returns-clause-justified c =
    rw c.from_vec.ensures
    (drain_justified c.all_are_justified.ensures.drain c.args.self.now
    (works_seen c.self.inside.policy c.self.inside.remembered c.self.inside.clock c.self.inside.stopped c.args.self.now c.self.view_is c.self.invariant.0.together)
    (acted_steps c.in_ok-steps.field-0.steps.items)
    (subst (λ (e : Enforcing). FollowsDrainFrom e (acted_steps c.in_ok-steps.field-0.steps.items))
    (going c.self.inside.policy c.self.inside.remembered c.self.inside.clock c.self.inside.stopped c.args.self.now c.if-self.false c.self.view_is)
    (drain_follows c.self.inside.policy c.self.inside.remembered c.pass.new.self c.self.inside.clock c.in_ok-steps.field-0.clock (acted_steps c.in_ok-steps.field-0.steps.items)
    c.in_ok-steps.ensures.passes c.in_ok-steps.ensures.none_left)))

pub returns-clause-transparent : goal.returns-clause-transparent
returns-clause-transparent c =
    rw c.from_vec.ensures
    (drain_alone c.lawful_are_left_alone.ensures.drain c.args.self.now
    (works_seen c.self.inside.policy c.self.inside.remembered c.self.inside.clock c.self.inside.stopped c.args.self.now c.self.view_is c.self.invariant.0.together)
    (acted_steps c.in_ok-steps.field-0.steps.items)
    (subst (λ (e : Enforcing). FollowsDrainFrom e (acted_steps c.in_ok-steps.field-0.steps.items))
    (going c.self.inside.policy c.self.inside.remembered c.self.inside.clock c.self.inside.stopped c.args.self.now c.if-self.false c.self.view_is)
    (drain_follows c.self.inside.policy c.self.inside.remembered c.pass.new.self c.self.inside.clock c.in_ok-steps.field-0.clock (acted_steps c.in_ok-steps.field-0.steps.items)
    c.in_ok-steps.ensures.passes c.in_ok-steps.ensures.none_left)))
