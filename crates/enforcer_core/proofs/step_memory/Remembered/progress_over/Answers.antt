use Rattle.enforcer_core.proofs.Vocabulary.{◌∙◌, List, [], ◌∷◌, ◌++◌, map, sym, subst, on_ok_weaker, Event, AreServed, PendingAfter, GuardsWillHold, plan_of}
use Rattle.enforcer_core.proofs.step_memory.Remembered.progress_over.Goals as goal

pub returns-clause-goes : goal.returns-clause-goes
returns-clause-goes c =
    let same = c.of-events.ensures.all c.new-gone.ensures ∙ c.set.ensures in
    on_ok_weaker c.progress.result
    (λ goes trace remembers later served.
    subst (λ (events : List Event). PendingAfter (map plan_of c.args.plans.now)
    (trace ++ record { time = c.args.time; events = events } ∷ []) c.args.self.now.pending.instances
    c.progress.new.self.instances) same
    (goes trace (record { time = c.args.time; events = c.of-events.result })
    (c.now_stands.ensures c.args.self.now.past trace _ (sym same)
    (subst (λ (events : List Event). GuardsWillHold c.args.self.now.past c.args.time events c.args.tables.now) (sym same) c.requires.hold)
    remembers.past (sym remembers.position) later) later
    (c.pending_is_unmet.ensures (map plan_of c.args.plans.now) trace c.args.self.now.pending.instances c.requires.can.named remembers.is_trace remembers.pending)
    (subst (λ (events : List Event). AreServed (map plan_of c.args.plans.now) c.args.inserted (trace ++ record { time = c.args.time; events = events } ∷ []) c.args.self.now.pending.instances)
    (sym same) served)))
    c.progress.ensures.goes
