use Rattle.enforcer_core.proofs.Vocabulary.{◌≤◌, Contains, List, [], ◌∷◌, ◌++◌, length-append, map, refl, sym, subst, arith, none_in_nil, last_time, Event, NameId, Option, RemembersTrace, Step}
use Rattle.enforcer_core.proofs.Vocabulary.{plan_of, waking_names, PendingAfter, placed_guard, Decides, ActsFrom, is_inserted, AllSleep, Action}
use Rattle.std.specs.List.{AllByRecursion}
use Rattle.obligations.specs.machine.AskablePlans.{CanAskOf, CanAskRoots}
use Rattle.choice_step.specs.machine.Laws.{AllAreAsleep}
use Rattle.past_state.specs.machine.UntouchedSteps.{AreUntouched}
use Rattle.pending.specs.machine.Moments.{step_moment}
use Rattle.pending.specs.machine.Waits.{SleepsNow}
use Rattle.sleepers.specs.machine.Entries.{AllButThose}
use Rattle.enforcer_core.proofs.step_memory.Remembered.decide.Goals as goal

pub pass-requires-clause-untouched : goal.pass-requires-clause-untouched
pass-requires-clause-untouched c = (c.as_slice.result.now, (c.is_idle.ensures c.if-is_idle.true).untouched)

pub returns-then-is_idle-clause-decided : goal.returns-then-is_idle-clause-decided
returns-then-is_idle-clause-decided c =
    let plans = map plan_of c.args.plans.now in
    let before = c.args.self.now in
    let guards = map placed_guard before.past.guards in
    let inserted = is_inserted c.args.kind in
    let step : Step = record { time = c.args.time; events = c.args.events } in
    let idle = c.is_idle.ensures c.if-is_idle.true in
    let asked = c.requires.can.asked in
    let all : AllAreAsleep guards plans inserted c.args.time c.args.events before.pending = record {
      roots = asked.roots;
      instances = asked.instances;
      kept = asked.deadlines;
      sleep = subst (λ at. AllButThose (SleepsNow c.args.events (step_moment at c.args.time)) before.pending.listed []) c.is_inserted-inserted.ensures
          (subst (λ l. AllButThose (SleepsNow l (step_moment c.is_inserted-inserted.result c.args.time)) before.pending.listed []) c.as_slice.ensures.events idle.sleep);
      rules = subst (λ (l : List Event). AllSleep (map waking_names plans) l) c.as_slice.ensures.events
          (subst (λ (w : List (Option (List NameId))). AllSleep w c.as_slice.result.now) c.requires.facts.wakes idle.asleep);
    } in
    let untouched = subst (λ l. AreUntouched l before.past.operators) c.as_slice.ensures.events idle.untouched in
    let goes : (trace : List Step) → RemembersTrace plans before trace → last_time trace ≤ c.args.time
    → PendingAfter plans (trace ++ step ∷ []) before.pending.instances before.pending.instances =
    λ trace remembers later. c.asleep_is_idle.ensures.goes guards plans trace inserted c.args.time c.args.events before.pending all asked.named later
    (c.pending_is_unmet.ensures plans trace before.pending.instances asked.named remembers.is_trace remembers.pending) in
    record {
      kind_is = refl;
      time_is = refl;
      distinct = c.as_slice.ensures.distinct;
      acts = subst (λ (l : List Action). ActsFrom plans c.args.events l c.args.events) (sym c.new.ensures) refl;
      asked = λ action there. absurd (none_in_nil action (subst (λ (l : List Action). Contains l action) c.new.ensures there));
      leads = c.asleep_is_idle.ensures.leads guards plans inserted c.args.time before.position c.args.events before.pending all;
      guards = c.pass.ensures.guards;
      position = refl;
      deadlines = c.requires.can.asked.deadlines;
      goes_out = λ trace remembers later. record {
        pending = before.pending.instances;
        pend = remembers.pending;
        kind_is = refl;
        time_is = refl;
        decided = subst (λ (l : List Action). Decides plans trace before.pending.instances inserted c.args.time c.args.events l c.args.events) (sym c.new.ensures)
            (c.asleep_is_idle.ensures.decides guards plans trace inserted c.args.time c.args.events before.pending all);
      };
      goes = goes;
      remembers = λ trace remembers later.
          let at = remembers.position in
          record {
            is_trace = c.trace_grows.ensures.trace trace step remembers.is_trace later c.as_slice.ensures.distinct;
            position = omega (arith, at, length-append trace (step ∷ []));
            last = (omega (arith, length-append trace (step ∷ [])), sym (c.trace_grows.ensures.last trace step));
            past = c.in_ok-pass.ensures.stands c.args.events untouched trace later remembers.past;
            pending = c.traces_grow.ensures.pending plans trace step before.pending.instances before.pending.instances remembers.pending (goes trace remembers later);
          };
    }

pub returns-then-is_idle-clause-can : goal.returns-then-is_idle-clause-can
returns-then-is_idle-clause-can c = λ later least.
    let asked = c.requires.can.asked in
    let same = c.pass.ensures.guards in
    record {
      asked = record {
        few = asked.few;
        roles = asked.roles;
        named = asked.named;
        roots = subst (λ gs. CanAskRoots (map placed_guard gs) (map plan_of c.args.plans.now)) (sym same) asked.roots;
        instances = subst (λ gs. AllByRecursion (CanAskOf (map placed_guard gs) (map plan_of c.args.plans.now)) c.args.self.now.pending.instances) (sym same) asked.instances;
        deadlines = asked.deadlines;
      };
      up_to = c.in_ok-pass.ensures.up_to later least;
    }
