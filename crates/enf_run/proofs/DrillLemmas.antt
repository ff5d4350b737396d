-- How far a drill has come, one step more, and what is found at its end.
use Rattle.enf_run.proofs.Vocabulary.{◌≡◌, ℕ, zero, suc, ◌+◌, ◌-◌, ◌*◌, ◌^◌, ◌≤◌, List, [], ◌∷◌, ◌++◌, length, map, refl, sym, ap, subst, ◌∙◌, arith, cond, false, IfOk, Result, Ok, Err, Option, None}
use Rattle.enf_run.proofs.Vocabulary.{Some, sum_by-append, ActedStep, is_inserted, steps_of, FollowsDrain, AreDistinct, Formula, HasNoRepeats, Step, StoredTyped, typed_of, Course, Enforcing}
use Rattle.enf_run.proofs.Vocabulary.{policy_plans, enforcer_plans, acted_steps, FollowsToEnd, policy_operators as stored_operators, AnswersStep, Progress}
use Rattle.enf_run.proofs.Vocabulary.{drawn_events, event_count, first_draw, generated, generated_records, generated_step, sample_entries, sample_rules, early, records_more, BoundFormula, tree_in}
use Rattle.enf_run.proofs.Vocabulary.{all_operators, guards_of, IsSnapshotOf, Record, StepRecord, clock_after, TallyAtMost, FinishesDrill, IsNewDrill, TakesCounted, tally_with}
use Rattle.enf_run.proofs.Vocabulary.{SampleDrillFinds, causes_in, is_system, guard_operators, suppressions_in, tally_of, all_formulas, EnforcerLaws}
use Rattle.enf_run.proofs.Vocabulary.{Drilled, Tally}
use Rattle.enf_run.specs.declared.drills.Drill.{Drill}
use Rattle.enf_run.proofs.LogLemmas.{put_all_distinct}
use Rattle.enf_run.proofs.LogProgressLemmas.{none_else}

-- ---- counts

-- the counts of steps, and of some more after them
pub tally_more : (xs ys : List ActedStep) → tally_with (tally_of xs) ys ≡ tally_of (xs ++ ys)
tally_more xs ys = λ i. record {
  steps = sym (sum_by-append (λ (o : ActedStep). cond (is_system o.kind) 1 0) xs ys) i;
  inserted = sym (sum_by-append (λ (o : ActedStep). cond (is_inserted o.kind) 1 0) xs ys) i;
  caused = sym (sum_by-append (λ (o : ActedStep). causes_in o.actions) xs ys) i;
  suppressed = sym (sum_by-append (λ (o : ActedStep). suppressions_in o.actions) xs ys) i;
}

-- so it is after any counts
pub and_more : (t : Tally) (xs ys : List ActedStep) → tally_with (tally_with t xs) ys ≡ tally_with t (xs ++ ys)
and_more t xs ys =
    let both = tally_more xs ys in
    λ i. record {
      steps = more t.steps (tally_of xs).steps (tally_of ys).steps (tally_of (xs ++ ys)).steps (ap (λ (u : Tally). u.steps) both) i;
      inserted = more t.inserted (tally_of xs).inserted (tally_of ys).inserted (tally_of (xs ++ ys)).inserted (ap (λ (u : Tally). u.inserted) both) i;
      caused = more t.caused (tally_of xs).caused (tally_of ys).caused (tally_of (xs ++ ys)).caused (ap (λ (u : Tally). u.caused) both) i;
      suppressed = more t.suppressed (tally_of xs).suppressed (tally_of ys).suppressed (tally_of (xs ++ ys)).suppressed (ap (λ (u : Tally). u.suppressed) both) i;
    }
  where
    more : (a b c d : ℕ) → b + c ≡ d → (a + b) + c ≡ a + d
    more a b c d e = omega (arith, e)

pub and_none : (t : Tally) → tally_with t [] ≡ t
and_none t = λ i. record { steps = none t.steps i; inserted = none t.inserted i; caused = none t.caused i; suppressed = none t.suppressed i }
  where
    none : (n : ℕ) → n + 0 ≡ n
    none n = omega arith

-- what is at most so much is at most more
pub at_most_more : (t : Tally) (most more : ℕ) → most ≤ more → TallyAtMost most t → TallyAtMost more t
at_most_more t most more le h =
    record { steps = omega (arith, h.steps, le); inserted = omega (arith, h.inserted, le); caused = omega (arith, h.caused, le); suppressed = omega (arith, h.suppressed, le) }

-- ---- the generated records

-- no event stands twice in them
distinct_push : (steps : List Step) (step : Step) → AreDistinct (map (λ s. StepRecord s) steps) → HasNoRepeats step.events → AreDistinct (map (λ s. StepRecord s) (steps ++ step ∷ []))
distinct_push [] step each last = (last, tt)
distinct_push (first ∷ steps) step each last = (each.0, distinct_push steps step each.1 last)

distinct_records : (start steps : ℕ) → AreDistinct (generated_records start steps)
distinct_records start zero = tt
distinct_records start (suc steps) =
    distinct_push (generated start steps) (generated_step start steps) (distinct_records start steps)
    (put_all_distinct [] (drawn_events start (first_draw start steps + 2) (event_count start (first_draw start steps))) tt)

-- ---- the run

-- the operators in the guards of a policy are those of the guards that it stands for
same_operators : (guards : List BoundFormula) → map tree_in guards ≡ map (λ guard. guard.0) (guards_of guards)
same_operators [] = refl
same_operators (guard ∷ guards) = ap (λ (fs : List Formula). tree_in guard ∷ fs) (same_operators guards)

-- so many steps were made and enforced, and what was emitted for them was counted
pub record Runs (start : ℕ) (first : Enforcing) (made : ℕ) (now : Drill) : Type 0 where
  pub out : List ActedStep
  pub course : Course first [] (generated_records start made) out now.enforcer
  pub tally : now.tally ≡ tally_of out
  pub few : TallyAtMost (now.enforcer.position * 2 ^ 63) now.tally
  pub positions : now.enforcer.position ≤ made + now.enforcer.clock
  pub soon : now.enforcer.clock ≤ 7 * made
  pub goes_on : now.enforcer.stopped ≡ false

module _ (laws : EnforcerLaws) (start : ℕ) (drill : Drill) (new : IsNewDrill drill) where
  abbrev first : Enforcing
  first = drill.enforcer

  pub runs_none : Runs start first 0 drill
  runs_none =
      record {
        out = [];
        course = laws.begins first [] new.stands;
        tally = new.tally;
        few = subst (TallyAtMost (first.position * 2 ^ 63)) (sym new.tally) (record { steps = omega arith; inserted = omega arith; caused = omega arith; suppressed = omega arith });
        positions = omega (arith, new.position);
        soon = omega (arith, new.clock);
        goes_on = new.goes_on;
      }

  -- one step more
  pub runs_more : (made : ℕ) (now after : Drill) (step : Step) → step ≡ generated_step start made
      → Runs start first made now → TakesCounted now (StepRecord step) after → Runs start first (made + 1) after
  runs_more made now after step same h t =
      let few : length t.made.steps ≤ 1 + (step.time - now.enforcer.clock) = laws.few now.enforcer (StepRecord step) t.made after.enforcer t.takes in
      let moved = t.takes.goes_on in
      let time : step.time ≤ 7 * (made + 1) = omega (arith, ap (λ (s : Step). s.time) same, early start (suc made)) in
      let course = laws.goes_on first [] (generated_records start made) h.out now.enforcer (StepRecord step) t.made after.enforcer h.course t.takes.in_time t.takes.goes_on t.takes.stands t.takes.changed t.takes.decided in
      record {
        out = h.out ++ acted_steps t.made.steps;
        course = subst (λ (records : List Record). Course first [] records (h.out ++ acted_steps t.made.steps) after.enforcer)
            (ap (λ (s : Step). generated_records start made ++ StepRecord s ∷ []) same ∙ sym (records_more start made)) course;
        tally = t.tally ∙ ap (λ (u : Tally). tally_with u (acted_steps t.made.steps)) h.tally ∙ tally_more h.out (acted_steps t.made.steps);
        few = at_most_more after.tally (now.enforcer.position * 2 ^ 63 + length t.made.steps * 2 ^ 63)
            (after.enforcer.position * 2 ^ 63) (omega (arith, moved.position))
            (t.few (now.enforcer.position * 2 ^ 63) h.few);
        positions = omega (arith, moved.position, moved.clock_is, t.takes.in_time.not_over, few, h.positions);
        soon = omega (arith, moved.clock_is, time);
        goes_on = moved.goes_on;
      }

  -- all steps were made, and the rest was served
  pub runs_end : (steps : ℕ) (now : Drill) (found : Drilled) → Runs start first steps now → FinishesDrill now found → SampleDrillFinds start steps found
  runs_end steps now found h f =
      let records = generated_records start steps in
      let policy = all_formulas sample_rules in
      let all = h.out ++ f.last in
      let drained = subst (λ (stored : StoredTyped). FollowsDrain (policy_plans stored) (steps_of h.out) f.last) h.course.policy (f.drained (steps_of h.out) h.course.stands) in
      let decided : FollowsToEnd sample_entries policy [] records all =
      record {
        plans = enforcer_plans first;
        guards = guards_of first.policy.guards;
        planned = new.planned;
        first = h.out;
        last = f.last;
        split = refl;
        follows = h.course.decided;
        drained = drained;
      } in
      let clock : now.enforcer.clock ≡ clock_after 0 records = h.course.clock ∙ ap (λ (n : ℕ). clock_after n records) new.clock in
      let here = subst (λ (stored : StoredTyped). IsSnapshotOf (policy_plans stored) (stored_operators stored)
      (steps_of h.out) now.enforcer.clock f.state) h.course.policy (f.saved (steps_of h.out) h.course.stands) in
      let named = subst (λ (fs : List Formula). IsSnapshotOf (enforcer_plans first) (all_operators fs) (steps_of h.out) now.enforcer.clock f.state) (same_operators first.policy.guards) here in
      record {
        out = all;
        decided = decided;
        only = none_else (FollowsToEnd sample_entries policy [] records)
            (laws.just_one_to_end sample_entries policy (typed_of first.policy) [] records new.planned new.together (distinct_records start steps)) all decided;
        tally = f.tally ∙ ap (λ (u : Tally). tally_with u f.last) h.tally ∙ tally_more h.out f.last;
        state = f.state;
        saved = subst (λ (n : ℕ). IsSnapshotOf (enforcer_plans first) (guard_operators (guards_of first.policy.guards)) (steps_of h.out) n f.state) clock named;
        kept = f.kept;
        pending = f.pending;
      }

-- ---- the end of the run

-- where no step was made all were made before
pub all_made : (before after : Progress) (found : Option Step) → AnswersStep before found after → ((step : Step) → found ≡ Some step → ⊥) → before.made ≡ before.steps
all_made before after None answer none = answer.0
all_made before after (Some step) answer none = absurd (none step refl)

-- what follows from what is known of an Ok
pub ok_weaker : {T E : Type 0} (P Q : T → Type 0) (result : Result T E) → ((value : T) → P value → Q value) → IfOk result P → IfOk result Q
ok_weaker P Q (Ok value) weaker p = weaker value p
ok_weaker P Q (Err why) weaker p = tt
