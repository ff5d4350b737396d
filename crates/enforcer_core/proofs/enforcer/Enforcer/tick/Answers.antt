use Rattle.enforcer_core.proofs.Vocabulary.{◌≡◌, ◌<◌, ◌≤◌, false, [], ◌∷◌, Contains, sym, subst, arith, Tick, Enforcing, acted_steps, LetsOut, FollowsFrom}
use Rattle.enforcer_core.proofs.EnforcerLemmas.{going, records_justified, seen, serving, works_seen}
use Rattle.enforcer_core.proofs.RecordLemmas.{takes_record}
use Rattle.enforcer_core.proofs.TransparencyLemmas.{records_alone}
use Rattle.enforcer_core.proofs.enforcer.Enforcer.tick.Goals as goal

pub let_pass-requires-clause-serves : goal.let_pass-requires-clause-serves
let_pass-requires-clause-serves c =
    let on : c.self.inside.stopped ≡ false = subst (λ (e : Enforcing). e.stopped ≡ false) (sym c.self.view_is) c.in_ok-admit.ensures.goes_on in
    serving c.self.inside.policy c.self.inside.remembered c.self.inside.clock c.self.inside.stopped on (c.self.invariant.0.serves on)

pub invariant_of-self-2 : goal.invariant_of-self-2
invariant_of-self-2 c =
    (record { together = c.self.invariant.0.together; bounded = c.self.invariant.0.bounded; serves = λ on. c.in_ok-steps.ensures.out.serves }, c.self.invariant.1)

pub returns-in_err-steps-clause-no_memory : goal.returns-in_err-steps-clause-no_memory
returns-in_err-steps-clause-no_memory c later same =
    c.in_err-steps.ensures.memory
    (λ deadline there passed.
    let le : c.args.time ≤ deadline = later deadline (subst (λ (e : Enforcing). Contains e.pending.deadlines deadline) c.self.view_is there) in
    let less : deadline < c.args.time = passed in
    omega (arith, le, less))

pub returns-clause-nothing : goal.returns-clause-nothing
returns-clause-nothing c later =
    c.in_ok-steps.ensures.nothing
    (λ deadline there passed.
    let le : c.args.time ≤ deadline = later deadline (subst (λ (e : Enforcing). Contains e.pending.deadlines deadline) c.self.view_is there) in
    let less : deadline < c.args.time = passed in
    omega (arith, le, less))

pub returns-clause-takes : goal.returns-clause-takes
returns-clause-takes c =
    let on : c.self.inside.stopped ≡ false = subst (λ (e : Enforcing). e.stopped ≡ false) (sym c.self.view_is) c.in_ok-admit.ensures.goes_on in
    let after : Enforcing = seen c.self.inside.policy c.let_pass.new.self c.args.time false in
    takes_record c.args.self.now after (Tick c.args.time) c.in_ok-steps.steps c.in_ok-admit.ensures
    (subst (λ (e : Enforcing). LetsOut e (Tick c.args.time) (acted_steps c.in_ok-steps.steps) after)
    (going c.self.inside.policy c.self.inside.remembered c.self.inside.clock c.self.inside.stopped c.args.self.now on c.self.view_is) c.in_ok-steps.ensures.out)

pub returns-clause-justified : goal.returns-clause-justified
returns-clause-justified c =
    let on : c.self.inside.stopped ≡ false = subst (λ (e : Enforcing). e.stopped ≡ false) (sym c.self.view_is) c.in_ok-admit.ensures.goes_on in
    records_justified c.all_are_justified.ensures.records c.args.self.now
    (works_seen c.self.inside.policy c.self.inside.remembered c.self.inside.clock c.self.inside.stopped c.args.self.now c.self.view_is c.self.invariant.0.together)
    (Tick c.args.time) c.in_ok-admit.ensures.not_over tt (acted_steps c.in_ok-steps.steps)
    (subst (λ (e : Enforcing). FollowsFrom e (Tick c.args.time ∷ []) (acted_steps c.in_ok-steps.steps))
    (going c.self.inside.policy c.self.inside.remembered c.self.inside.clock c.self.inside.stopped c.args.self.now on c.self.view_is) c.in_ok-steps.ensures.out.decided)

pub returns-clause-transparent : goal.returns-clause-transparent
returns-clause-transparent c =
    let on : c.self.inside.stopped ≡ false = subst (λ (e : Enforcing). e.stopped ≡ false) (sym c.self.view_is) c.in_ok-admit.ensures.goes_on in
    records_alone c.lawful_are_left_alone.ensures.records c.args.self.now
    (works_seen c.self.inside.policy c.self.inside.remembered c.self.inside.clock c.self.inside.stopped c.args.self.now c.self.view_is c.self.invariant.0.together)
    (Tick c.args.time) c.in_ok-admit.ensures.not_over tt (acted_steps c.in_ok-steps.steps)
    (subst (λ (e : Enforcing). FollowsFrom e (Tick c.args.time ∷ []) (acted_steps c.in_ok-steps.steps))
    (going c.self.inside.policy c.self.inside.remembered c.self.inside.clock c.self.inside.stopped c.args.self.now on c.self.view_is) c.in_ok-steps.ensures.out.decided)
