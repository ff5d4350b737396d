use Rattle.enforcer_core.proofs.Vocabulary.{◌≡◌, Contains, List, [], ◌∷◌, ◌++◌, map, sym, subst, ◌∙◌, OnOk, none_in_nil, Event, Step, placed_guard, LeadsAt, PendingAfter, Instance, plan_of}
use Rattle.enforcer_core.proofs.step_memory.Remembered.progress.Goals as goal

pub returns-then-looks_at_now-clause-goes : goal.returns-then-looks_at_now-clause-goes
returns-then-looks_at_now-clause-goes c = λ trace remembers later served.
    let plans = map plan_of c.args.plans.now in
    let before = c.args.self.now.pending.instances in
    let step : Step = record { time = c.args.time; events = c.args.events.now } in
    let present = c.looks_at_now.ensures c.if-looks_at_now.true in
    let goes = c.pending_exists.ensures.goes (map placed_guard c.args.self.now.past.guards) plans (trace ++ step ∷ []) before c.requires.can.roots c.requires.can.instances in
    let pend = c.traces_grow.ensures.pending plans trace step before goes.0 remembers.pending goes.1 in
    let none : goes.0 ≡ [] = c.pending_is_enough.ensures.nothing plans (trace ++ step ∷ []) goes.0 (c.requires.facts.present present.1) pend in
    subst (λ (l : List Instance). PendingAfter plans (trace ++ step ∷ []) before l) (none ∙ sym present.0) goes.1

pub returns-then-looks_at_now-clause-leads : goal.returns-then-looks_at_now-clause-leads
returns-then-looks_at_now-clause-leads c = λ j there.
    absurd (none_in_nil j (subst (λ (l : List Instance). Contains l j) (c.looks_at_now.ensures c.if-looks_at_now.true).0 there))

pub returns-clause-leads : goal.returns-clause-leads
returns-clause-leads c =
    subst (λ (events : List Event). OnOk c.progress_over.result (LeadsAt events c.args.time c.args.self.now.position (map plan_of c.args.plans.now) c.args.inserted
    c.args.self.now.pending.instances c.progress_over.new.self.pending.instances)) c.in_ok-ordered.ensures c.progress_over.ensures.leads
