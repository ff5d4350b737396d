use Rattle.enforcer_core.proofs.Vocabulary.{◌≡◌, ◌≤◌, ◌∙◌, ap, List, [], ◌∷◌, ◌++◌, length-append, map, refl, sym, subst, arith, Step, last_time, AreTablesAtStep, CommittedWillStand, Past, plan_of}
use Rattle.enforcer_core.proofs.Vocabulary.{placed_guard, LeadsAt, PendingAfter, Decides, RemembersTrace}
use Rattle.enforcer_core.proofs.ForcedInstanceLemmas.{are_served}
use Rattle.enforcer_core.proofs.step_memory.Remembered.decide_awake.Goals as goal

pub choose_with-requires : goal.choose_with-requires
choose_with-requires c =
    let asked = c.requires.can.asked in
    record {
      wakes = c.requires.facts.wakes;
      can = record {
        few = asked.few;
        roles = asked.roles;
        all = record { roots = asked.roots; instances = asked.instances };
        kept = asked.deadlines;
        later = c.requires.can.up_to;
      };
    }

pub progress-requires : goal.progress-requires
progress-requires c = record {
  facts = c.requires.facts;
  can = c.requires.can.asked;
  guards = c.in_ok-events.ensures.chosen.tables.2.0;
  hold = c.in_ok-events.ensures.chosen.hold;
  in_time = c.requires.in_time;
}

pub commit-requires-clause-are : goal.commit-requires-clause-are
commit-requires-clause-are c =
    subst (λ (p : Past). AreTablesAtStep p c.args.time c.in_ok-events.field-0.events c.in_ok-events.field-0.tables) (sym c.in_ok-progress.ensures.past) c.in_ok-events.ensures.chosen.tables

pub returns-clause-decided : goal.returns-clause-decided
returns-clause-decided c =
    let plans = map plan_of c.args.plans.now in
    let before = c.args.self.now in
    let events = c.in_ok-events.field-0.events in
    let are : AreTablesAtStep c.args.self.now.past c.args.time c.in_ok-events.field-0.events c.in_ok-events.field-0.tables = c.in_ok-events.ensures.chosen.tables in
    let stand : CommittedWillStand c.args.self.now.past c.args.time c.in_ok-events.field-0.events c.in_ok-events.field-0.tables c.commit.new.self =
    subst (λ (p : Past). CommittedWillStand p c.args.time c.in_ok-events.field-0.events c.in_ok-events.field-0.tables c.commit.new.self) c.in_ok-progress.ensures.past c.in_ok-commit.ensures.stands in
    let goes : (trace : List Step) → RemembersTrace plans before trace → last_time trace ≤ c.args.time
    → PendingAfter plans (trace ++ record { time = c.args.time; events = events } ∷ []) before.pending.instances c.progress.new.self.pending.instances =
    λ trace remembers later. c.in_ok-progress.ensures.goes trace remembers later
    (are_served c.pending_was_begun.ensures.begun c.decided_misses_nothing.ensures (map placed_guard before.past.guards) plans trace before.pending.instances c.is_inserted-inserted.result c.args.time
    c.args.events c.in_ok-events.field-0.actions events c.requires.can.asked.named c.requires.can.asked.instances remembers.pending
    (c.in_ok-events.ensures.chosen.decided trace remembers.past (sym remembers.position) later)) in
    let long : c.progress.new.self.position ≡ c.args.self.now.position = c.in_ok-progress.ensures.position in
    record {
      kind_is = refl;
      time_is = refl;
      distinct = c.as_slice-given.ensures.distinct;
      acts = c.in_ok-events.ensures.chosen.acted;
      asked = c.in_ok-events.ensures.chosen.asked;
      leads = subst (λ inserted. LeadsAt events c.args.time before.position plans inserted before.pending.instances c.progress.new.self.pending.instances)
          c.is_inserted-inserted.ensures c.in_ok-progress.ensures.leads;
      guards = c.in_ok-commit.ensures.guards ∙ ap (λ p. p.guards) c.in_ok-progress.ensures.past;
      position = omega (arith, long);
      deadlines = c.in_ok-progress.ensures.deadlines;
      goes_out = λ trace remembers later. record {
        pending = before.pending.instances;
        pend = remembers.pending;
        kind_is = refl;
        time_is = refl;
        decided = subst (λ inserted. Decides (map plan_of c.args.plans.now) trace c.args.self.now.pending.instances
            inserted c.args.time c.args.events c.in_ok-events.field-0.actions c.in_ok-events.field-0.events)
            c.is_inserted-inserted.ensures
            (c.in_ok-events.ensures.chosen.decided trace remembers.past (sym remembers.position) later);
      };
      goes = goes;
      remembers = λ trace remembers later.
          let at = remembers.position in
          record {
            is_trace = c.trace_grows.ensures.trace trace (record { time = c.args.time; events = events }) remembers.is_trace later c.as_slice-given.ensures.distinct;
            position = omega (arith, long, at, length-append trace (record { time = c.args.time; events = events } ∷ []));
            last = (omega (arith, length-append trace (record { time = c.args.time; events = events } ∷ [])), sym (c.trace_grows.ensures.last trace (record { time = c.args.time; events = events })));
            past = stand trace (record { time = c.args.time; events = events }) refl refl later remembers.past are;
            pending = c.traces_grow.ensures.pending plans trace (record { time = c.args.time; events = events }) before.pending.instances c.progress.new.self.pending.instances remembers.pending
                (goes trace remembers later);
          };
    }
