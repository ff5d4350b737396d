-- What is emitted for a record: steps at the deadlines that it passes, and its own step.
use Rattle.enforcer_core.proofs.Vocabulary.{false, ℕ, ◌+◌, ◌<◌, ◌≤◌, List, [], ◌∷◌, ◌++◌, length-append, refl, sym, subst, ◌∙◌, arith, Some, append-nil, length-map, HasNoRepeats, Event, Step, Record}
use Rattle.enforcer_core.proofs.Vocabulary.{StepRecord, Tick, most_time, time_of, StepKind, System, AreCopies, Plan, MOST_HORIZON, StoredTyped, WorkTogether, typed_of, NoneIsOver, MOST_TIME}
use Rattle.enforcer_core.proofs.Vocabulary.{ActedStep, steps_of, GoesOut, steps_behind, ChangesLawfully, RiseWithin, RisesBy, IsCallInTime, EnforcerTakes, Enforcing, policy_plans, acted_step}
use Rattle.enforcer_core.proofs.Vocabulary.{acted_steps, enforcing_at, reach_in, LetsOut, NoneIsLeft, PassesDeadlines, CanDecideAt, IsDecided, RemembersTrace, Stands, StepLaws, Remembered, length, most_inserted}
use Rattle.enforcer_core.proofs.LawfulChangeLemmas.{changes_join, none_changes, system_changes}
use Rattle.enforcer_core.proofs.PassedDeadlineLemmas.{passes_all, rise_join}
use Rattle.enforcer_core.proofs.StepLemmas.{none_earlier, stands_behind, stands_later}
use Rattle.enforcer_core.specs.declared.steps.OutStep as made

module _ (laws : StepLaws) (policy : StoredTyped) (r r' : Remembered) (from middle time : ℕ) (le : from ≤ time) (out : List ActedStep)
    (passes : PassesDeadlines (Some time) (enforcing_at policy r from) out (enforcing_at policy r' middle))
    (none : NoneIsLeft (Some time) (enforcing_at policy r' middle)) (few : length out ≤ most_inserted) where
  abbrev plans : List Plan
  plans = policy_plans policy

  abbrev before : Enforcing
  before = enforcing_at policy r from

  pub in_time : middle ≤ time
  in_time = passes.within.in_time time le (λ deadline passed. passed)

  none_over : NoneIsOver plans r'.pending.instances time
  none_over = none_earlier plans r'.pending time (passes.serves.can middle (omega arith)).asked.deadlines
      (λ deadline there. let not_passed : deadline < time → ⊥ = none deadline there in omega (arith, not_passed))

  later : (trace : List Step) → Stands (enforcing_at policy r' middle) trace → Stands (enforcing_at policy r' time) trace
  later trace stands = stands_later policy r' middle time in_time none_over trace stands

  pub tick_out : LetsOut before (Tick time) out (enforcing_at policy r' time)
  tick_out =
      let within = in_time in
      record {
        serves = record {
          guards = passes.serves.guards;
          can = λ at then. passes.serves.can at (omega (arith, within, then));
          over = none_over;
          in_reach = passes.serves.in_reach;
        };
        goes_on = record { policy = refl; clock_is = refl; position = passes.goes_on.position; goes_on = refl };
        few = omega (arith, few);
        rising = subst (RiseWithin from time) (append-nil out) (rise_join from middle time out [] passes.within.rises within passes.rising tt);
        stands = λ trace stands. later (trace ++ steps_of out) (passes.stands trace stands);
        changed = subst (ChangesLawfully plans from time (Tick time ∷ [])) (append-nil out)
            (changes_join laws.within laws.lawful plans from middle time [] (Tick time ∷ []) out [] passes.within.rises within passes.changed
            (none_changes plans middle time (Tick time ∷ []) refl));
        decided = λ trace stands.
            (out, [], [], passes_all policy r r' from middle (Some time) out passes none trace stands, refl, refl, sym (append-nil (out ++ []) ∙ append-nil out));
      }

  module _ (together : WorkTogether (typed_of policy)) (bounded : (typed_of policy).ranked.horizon ≤ MOST_HORIZON)
      (in_bound : time ≤ most_time System) (r'' : Remembered) (events : List Event) (distinct : HasNoRepeats events) (o : made.OutStep)
      (decided : IsDecided plans r' System time events o r'')
      (can : (at : ℕ) → time ≤ at → CanDecideAt plans r'' at) where
    abbrev after : Enforcing
    after = enforcing_at policy r'' time

    of_trace : (trace : List Step) → Stands (enforcing_at policy r' time) trace → RemembersTrace plans r' trace
    of_trace trace stands = record {
      is_trace = stands.is_trace;
      position = stands.position;
      last = stands.last;
      past = stands.past;
      pending = stands.pending;
    }

    goes : (trace : List Step) → Stands (enforcing_at policy r' time) trace → GoesOut plans trace System time events (acted_step o)
    goes trace stands = decided.goes_out trace (of_trace trace stands) stands.ready.not_later

    remembers : (trace : List Step) → Stands (enforcing_at policy r' time) trace → RemembersTrace plans r'' (trace ++ (acted_step o).step ∷ [])
    remembers trace stands = decided.remembers trace (of_trace trace stands) stands.ready.not_later

    stays : NoneIsOver plans r''.pending.instances time
        × ((most : ℕ) → reach_in (enforcing_at policy r' time) ≤ most → time + (typed_of policy).ranked.horizon ≤ most → reach_in after ≤ most)
    stays = laws.stays (typed_of policy) r'.pending.instances r''.pending.instances time r'.position o.events false together none_over decided.leads

    stands_step : (trace : List Step) → Stands (enforcing_at policy r' time) trace → Stands after (trace ++ (acted_step o).step ∷ [])
    stands_step trace stands =
        stands_behind laws policy r' r'' time time time (omega arith) (omega arith) System events (acted_step o) trace stands
        (laws.windows (typed_of policy) trace r'.pending.instances together stands.pending) none_over (goes trace stands) decided.distinct
        (remembers trace stands) decided.deadlines stays.0

    pub step_out : LetsOut before (StepRecord (record { time = time; events = events })) (out ++ acted_step o ∷ []) after
    step_out =
        let within = in_time in let position = passes.goes_on.position in let then = decided.position in
        record {
          serves = record {
            guards = subst (AreCopies policy.guards) (sym decided.guards) passes.serves.guards;
            can = can;
            over = stays.0;
            in_reach = stays.1 MOST_TIME passes.serves.in_reach (omega (arith, bounded, in_bound));
          };
          goes_on = record {
            policy = refl;
            clock_is = refl;
            position = omega (arith, position, then, length-append out (acted_step o ∷ []));
            goes_on = refl;
          };
          few = omega (arith, few, length-append out (acted_step o ∷ []));
          rising = rise_join from middle time out (acted_step o ∷ []) passes.within.rises within passes.rising
              (subst (λ (kind : StepKind). RisesBy kind middle time o.time (λ next. RiseWithin next time [])) (sym decided.kind_is) tt);
          stands = λ trace stands. subst (Stands after) (steps_behind trace out (acted_step o ∷ []))
              (stands_step (trace ++ steps_of out) (later (trace ++ steps_of out) (passes.stands trace stands)));
          changed = changes_join laws.within laws.lawful plans from middle time [] (StepRecord (record { time = time; events = events }) ∷ []) out (acted_step o ∷ [])
              passes.within.rises within passes.changed
              (system_changes laws.leads laws.once plans together.formed.roles middle time within events distinct (acted_step o) decided.kind_is decided.time_is decided.acts);
          decided = λ trace stands. (
            out,
            acted_step o ∷ [],
            [],
            passes_all policy r r' from middle (Some time) out passes none trace stands,
            (acted_step o, goes (trace ++ steps_of out) (later (trace ++ steps_of out) (passes.stands trace stands)), refl),
            refl,
            sym (append-nil (out ++ acted_step o ∷ [])),
          );
        }

-- ---- in the program's words

pub takes_record : (e after : Enforcing) (next : Record) (steps : List made.OutStep) → IsCallInTime e (time_of next)
    → LetsOut e next (acted_steps steps) after → EnforcerTakes e next (record { steps = steps }) after
takes_record e after next steps in_time out = record {
  in_time = in_time;
  goes_on = record {
    policy = out.goes_on.policy;
    clock_is = out.goes_on.clock_is;
    position = let at = out.goes_on.position in omega (arith, at, length-map steps acted_step);
    goes_on = out.goes_on.goes_on;
  };
  few = let few = out.few in omega (arith, few, length-map steps acted_step);
  rising = out.rising;
  stands = out.stands;
  changed = out.changed;
  decided = out.decided;
}
