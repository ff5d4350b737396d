-- What an enforcer has done, one record more, and at the end.
use Rattle.enforcer_core.proofs.Vocabulary.{◌≡◌, ℕ, ◌<◌, ◌≤◌, List, [], ◌∷◌, ◌++◌, length, refl, sym, ap, subst, ◌∙◌, arith, Bool, AllByRecursion, AllZip, append-nil, All-from_recursion}
use Rattle.enforcer_core.proofs.Vocabulary.{recursion_from_All, IsTrace, no_values, NameId, Step, Formula, Sat, Enforced, KeepsUp, Good, Satisfies, Lawful, IsWithin, trace_of, Record, NeverFall}
use Rattle.enforcer_core.proofs.Vocabulary.{recorded, time_of, ClockRises, LawfulJoins, RecordsJoin, WithinJoins, Plan, PlanMeans, PolicyKeepsMeaning, StoredTyped, WorkTogether, typed_of, IsReady}
use Rattle.enforcer_core.proofs.Vocabulary.{ActedStep, out_steps, AllAreJustified, steps_of, Follows, FollowsDrain, steps_behind, follows_join, justified_join, ChangesLawfully, Permits, Course}
use Rattle.enforcer_core.proofs.Vocabulary.{Enforcing, policy_plans, enforcer_plans, start_of, acted_steps, formulas_for, FollowsFrom, KeepsStanding, SatisfiesBehind, Stands, CourseIsJustified}
use Rattle.enforcer_core.proofs.Vocabulary.{CourseIsJustifiedToEnd, CourseBegins, CourseFollows, CourseFollowsToEnd, DrainIsJustified, FollowsIsJustified, PlannedAreSatisfied, StandsForGood}
use Rattle.enforcer_core.proofs.Vocabulary.{DrainLaws}
use Rattle.enforcer_core.proofs.LawfulChangeLemmas.{changes_join, none_changes, out_join}
use Rattle.enforcer_core.proofs.DrainLemmas.{ready_is_good}

-- the trace of the steps that were emitted
pub trace_is : (out : List ActedStep) → trace_of (out_steps out) ≡ steps_of out
trace_is [] = refl
trace_is (o ∷ out) = ap (λ (steps : List Step). o.step ∷ steps) (trace_is out)

module _ (start : Enforcing) (trace : List Step) (records : List Record) (out : List ActedStep) (now : Enforcing)
    (c : Course start trace records out now) where
  pub same_plans : enforcer_plans now ≡ enforcer_plans start
  same_plans = ap policy_plans c.policy

  module _ (next : Record) (more : List ActedStep) (after : Enforcing) (policy : after.policy ≡ now.policy)
      (clock : after.clock ≡ time_of next) (later : now.clock ≤ time_of next) where
    pub more_stands : KeepsStanding now after more → Stands after (trace ++ steps_of (out ++ more))
    more_stands keeps = subst (Stands after) (steps_behind trace out more) (keeps (trace ++ steps_of out) c.stands)

    pub more_in_time : RecordsJoin → NeverFall start.clock (records ++ next ∷ [])
    more_in_time join =
        join start.clock records (next ∷ []) c.in_time (subst (λ (clock : ℕ). clock ≤ time_of next) c.clock later, tt)

    pub more_changes : ClockRises → WithinJoins → LawfulJoins
        → ChangesLawfully (enforcer_plans now) now.clock (time_of next) (next ∷ []) more
        → ChangesLawfully (enforcer_plans start) start.clock after.clock (records ++ next ∷ []) (out ++ more)
    more_changes rises within lawful changed =
        let from : start.clock ≤ now.clock = omega (arith, rises start.clock records c.in_time, c.clock) in
        let joined : ChangesLawfully (enforcer_plans start) start.clock (time_of next) (records ++ next ∷ []) (out ++ more) =
        changes_join within lawful (enforcer_plans start) start.clock now.clock (time_of next) records (next ∷ []) out more from later c.changed
        (subst (λ (plans : List Plan). ChangesLawfully plans now.clock (time_of next) (next ∷ []) more) same_plans changed) in
        subst (λ (clock : ℕ). ChangesLawfully (enforcer_plans start) start.clock clock (records ++ next ∷ []) (out ++ more)) (sym clock) joined

    pub more_decided : FollowsFrom now (next ∷ []) more → Follows (enforcer_plans start) trace (records ++ next ∷ []) (out ++ more)
    more_decided decided =
        follows_join (enforcer_plans start) trace records (next ∷ []) out more c.decided
        (subst (λ (plans : List Plan). Follows plans (trace ++ steps_of out) (next ∷ []) more) same_plans (decided (trace ++ steps_of out) c.stands))

  pub course_keeps_up : StandsForGood → (causable suppressible : NameId → Bool) → Permits causable suppressible (enforcer_plans start)
      → WorkTogether (typed_of start.policy)
      → KeepsUp causable suppressible (formulas_for (enforcer_plans start)) (start_of start trace) records (out_steps out)
  course_keeps_up good causable suppressible may together = record {
    lawful = c.changed.lawful causable suppressible may;
    within = subst (λ (clock : ℕ). IsWithin start.clock clock (out_steps out)) c.clock c.changed.within;
    good = subst (λ (clock : ℕ). Good (formulas_for (enforcer_plans start)) (trace ++ trace_of (out_steps out)) clock) c.clock
        (subst (λ (steps : List Step). Good (formulas_for (enforcer_plans start)) (trace ++ steps) now.clock) (sym (trace_is out))
        (subst (λ (plans : List Plan). Good (formulas_for plans) (trace ++ steps_of out) now.clock) same_plans
        (good now (trace ++ steps_of out) (subst (λ (policy : StoredTyped). WorkTogether (typed_of policy)) (sym c.policy) together) c.stands)));
  }

  module _ (more : List ActedStep) (after : Enforcing) where
    joined : (trace ++ steps_of out) ++ steps_of more ≡ trace ++ trace_of (out_steps (out ++ more))
    joined = steps_behind trace out more ∙ ap (λ (steps : List Step). trace ++ steps) (sym (trace_is (out ++ more)))

    pub course_ends : LawfulJoins → (causable suppressible : NameId → Bool) → Permits causable suppressible (enforcer_plans start)
        → KeepsStanding now after more → SatisfiesBehind now more
        → ChangesLawfully (enforcer_plans now) now.clock after.clock [] more
        → Enforced causable suppressible (formulas_for (enforcer_plans start)) (start_of start trace) records (out_steps (out ++ more))
    course_ends joins causable suppressible may keeps satisfies changed = record {
      lawful = subst (λ (rs : List Record). Lawful causable suppressible rs (out_steps (out ++ more))) (append-nil records)
          (subst (Lawful causable suppressible (records ++ [])) (sym (out_join out more))
          (joins causable suppressible start.clock now.clock after.clock records [] (out_steps out) (out_steps more) c.changed.within changed.within
          (c.changed.lawful causable suppressible may)
          (changed.lawful causable suppressible (subst (Permits causable suppressible) (sym same_plans) may))));
      is_trace = subst IsTrace joined (keeps (trace ++ steps_of out) c.stands).is_trace;
      satisfied = subst (λ (steps : List Step). Satisfies steps (formulas_for (enforcer_plans start))) joined
          (subst (λ (plans : List Plan). Satisfies ((trace ++ steps_of out) ++ steps_of more) (formulas_for plans)) same_plans (satisfies (trace ++ steps_of out) c.stands));
    }

pub stands_good : DrainLaws → StandsForGood
stands_good laws enforcer trace together stands =
    ready_is_good laws (typed_of enforcer.policy) together trace enforcer.clock stands.is_trace stands.ready

pub course_follows : CourseFollows
course_follows entries policy guards start trace records out now planned c =
    record { plans = enforcer_plans start; guards = guards; planned = planned; follows = c.decided }

pub course_follows_to_end : CourseFollowsToEnd
course_follows_to_end entries policy guards start trace records out now made planned c drained = record {
  plans = enforcer_plans start;
  guards = guards;
  planned = planned;
  first = out;
  last = acted_steps made.steps;
  split = refl;
  follows = c.decided;
  drained = subst (λ (plans : List Plan). FollowsDrain plans (trace ++ steps_of out) (acted_steps made.steps)) (same_plans start trace records out now c)
      (drained (trace ++ steps_of out) c.stands);
}

-- what is emitted for records, as it is decided, is justified
pub course_is_justified : FollowsIsJustified → CourseIsJustified
course_is_justified justified entries policy guards start trace records out now planned together distinct c = record {
  plans = enforcer_plans start;
  guards = guards;
  planned = planned;
  justified = justified (typed_of start.policy) trace start.clock records out together c.began.is_trace c.began.ready c.in_time distinct c.decided;
}

pub course_is_justified_to_end : FollowsIsJustified → DrainIsJustified → CourseIsJustifiedToEnd
course_is_justified_to_end justified drain entries policy guards start trace records out now made planned together distinct c drained =
    let then = c.stands in
    let plans_are : enforcer_plans now ≡ enforcer_plans start = same_plans start trace records out now c in record {
      plans = enforcer_plans start;
      guards = guards;
      planned = planned;
      justified = subst (λ (steps : List Step). AllAreJustified (enforcer_plans start) trace steps (out ++ acted_steps made.steps)) (append-nil (recorded records))
          (justified_join (enforcer_plans start) trace (recorded records) [] out (acted_steps made.steps)
          (justified (typed_of start.policy) trace start.clock records out together c.began.is_trace c.began.ready c.in_time distinct c.decided)
          (drain (typed_of start.policy) (trace ++ steps_of out) now.clock (acted_steps made.steps) together then.is_trace
          (subst (λ (plans : List Plan). IsReady plans (trace ++ steps_of out) now.clock) plans_are then.ready)
          (subst (λ (plans : List Plan). FollowsDrain plans (trace ++ steps_of out) (acted_steps made.steps)) plans_are (drained (trace ++ steps_of out) then))));
    }

pub course_begins : CourseBegins
course_begins start trace stands = record {
  began = stands;
  policy = refl;
  clock = refl;
  in_time = tt;
  stands = subst (Stands start) (sym (append-nil trace)) stands;
  changed = none_changes (enforcer_plans start) start.clock start.clock [] refl;
  decided = refl;
}

-- ---- policies

meant : (policy : List Formula) (plans : List Plan) (trace : List Step) → AllZip PlanMeans policy plans
    → AllByRecursion (λ rule. (i : ℕ) → i < length trace → Sat trace i no_values rule) (formulas_for plans)
    → AllByRecursion (λ rule. (i : ℕ) → i < length trace → Sat trace i no_values rule) policy
meant [] plans trace same each = tt
meant (f ∷ policy) [] trace same each = absurd same
meant (f ∷ policy) (plan ∷ plans) trace same each =
    ((λ i within. (same.0 trace i no_values).0 (each.0 i within)), meant policy plans trace same.1 each.1)

pub planned_satisfied : PolicyKeepsMeaning → PlannedAreSatisfied
planned_satisfied keeps entries policy plans guards trace planned satisfied =
    All-from_recursion (λ rule. (i : ℕ) → i < length trace → Sat trace i no_values rule) policy
    (meant policy plans trace (keeps entries policy plans guards planned)
    (recursion_from_All (λ rule. (i : ℕ) → i < length trace → Sat trace i no_values rule) (formulas_for plans) satisfied))
