-- What an auditor stands for, and the verdict that it gives.
use Rattle.trace_audit.proofs.Vocabulary.{◌≡◌, ℕ, zero, suc, ◌+◌, ◌<◌, ◌≤◌, List, [], ◌∷◌, ◌++◌, length, length-append, map, take, get_or, Option, None, Some, IsTrue, refl, sym, ap, subst, arith, inl}
use Rattle.trace_audit.proofs.Vocabulary.{inr, ⊎_elim, ◌∙◌, append_assoc, AllByRecursion, append-nil, get_or-take, get_or_append_left, length-take-le, get_or-append_seam, none-some, same_Some}
use Rattle.trace_audit.proofs.Vocabulary.{slice_get-get_or, IsTrace, no_step, step_at, AllByRecursion-weaker, none_in_nil, no_values, variable_cmp, HasNoRepeats, Event, Step, VarId, Formula, Sat}
use Rattle.trace_audit.proofs.Vocabulary.{PastDecides, AgreeUpTo, is_past, BoundFormula, AreCopies, GuardsWillHold, IsGuard, Past, PastStands, PastTables, guard_formula, AreUpToTimeOf, typed_of}
use Rattle.trace_audit.proofs.Vocabulary.{LastIsAtTheEnd, LastIsTheNew, NoneIsLater, TraceGrows, PlacedGuard, IsListedNode, IsSafeNode, GuardBindsFresh, BringsFresh, LooksBack, EndsInTime}
use Rattle.trace_audit.proofs.Vocabulary.{AreWellFormed, IsWellFormed, guards_of, Plan, CausePlan, SuppressPlan, Both, Either, TestOr, Guarded, EventuallyPlan, AlwaysPlan, UntilPlan, NextPlan}
use Rattle.trace_audit.proofs.Vocabulary.{AtEach-from_nodes, AtEach, IsScopedNode, last_time, CanEvaluatePlan, IsAskable, Auditing, Audits, end_of, audited_rules, NothingElse, AreJudged, IsJudged}
use Rattle.trace_audit.proofs.Vocabulary.{rule_at, IsAt, AuditMoment, audit_moment, placed_guard, IsVerdict, formulas_for, RuleAt, Holds, Fails, slice_get}
use Rattle.std.specs.FinMap as finite

-- ---- guards that are placed

pub same_guards : (guards : List BoundFormula) (placed : List PlacedGuard) → AreCopies guards placed
    → guards_of guards ≡ map placed_guard placed
same_guards [] [] copies = refl
same_guards [] (p ∷ placed) copies = absurd copies
same_guards (g ∷ guards) [] copies = absurd copies
same_guards (g ∷ guards) (p ∷ placed) copies =
    λ i. (sym copies.0 i, sym copies.1 i) ∷ same_guards guards placed copies.2 i

placed_back : (placed : List PlacedGuard) (number : ℕ) (g : PlacedGuard) → AllByRecursion LooksBack (map placed_guard placed)
    → IsGuard placed number g → IsTrue (is_past (guard_formula g))
placed_back [] number g back is = absurd (none-some g is)
placed_back (p ∷ placed) zero g back is = subst (λ (h : PlacedGuard). IsTrue (is_past (guard_formula h))) (same_Some p g is) back.0
placed_back (p ∷ placed) (suc number) g back is = placed_back placed number g back.1 is

-- ---- a plan of a policy can be asked where nothing is bound

guard_fresh : (gs : List (Formula × List VarId)) → AllByRecursion GuardBindsFresh gs → (n : ℕ) (g : Formula × List VarId)
    → slice_get gs n ≡ Some g → GuardBindsFresh g
guard_fresh [] all n g is = absurd (none-some g is)
guard_fresh (h ∷ gs) all zero g is = subst GuardBindsFresh (same_Some h g is) all.0
guard_fresh (h ∷ gs) all (suc n) g is = guard_fresh gs all.1 n g is

module _ (gs : List (Formula × List VarId)) (all : AllByRecursion GuardBindsFresh gs) where
  node_fresh : (node : Plan) (scope : List VarId) → IsScopedNode node scope → IsListedNode gs node scope → BringsFresh node scope
  node_fresh (CausePlan node place name terms) scope s l = tt
  node_fresh (SuppressPlan node place name terms) scope s l = tt
  node_fresh (Both node left right) scope s l = tt
  node_fresh (Either node left right) scope s l = tt
  node_fresh (TestOr node guard test body) scope s l = guard_fresh gs all guard (test, scope) l
  node_fresh (Guarded node xs guard test body) scope s l = (guard_fresh gs all guard (test, scope) l, s.0)
  node_fresh (EventuallyPlan node place low high body) scope s l = tt
  node_fresh (AlwaysPlan node place low high body) scope s l = tt
  node_fresh (UntilPlan node place low high left right) scope s l = tt
  node_fresh (NextPlan node place high body) scope s l = tt

  askable : (node : Plan) (scope : List VarId) → IsScopedNode node scope → IsSafeNode node scope → IsListedNode gs node scope
      → EndsInTime node → IsAskable gs node scope
  askable node scope s f l e = record { scoped = s; safe = f; listed = l; fresh = node_fresh node scope s l; ends = e }

  each_askable : (plan : Plan) (scope : List VarId) → AtEach IsScopedNode plan scope → AtEach IsSafeNode plan scope
      → AtEach (IsListedNode gs) plan scope → AtEach (λ node inner. EndsInTime node) plan scope → AtEach (IsAskable gs) plan scope
  each_askable (CausePlan node place name terms) scope s f l e = askable (CausePlan node place name terms) scope s f l e
  each_askable (SuppressPlan node place name terms) scope s f l e = askable (SuppressPlan node place name terms) scope s f l e
  each_askable (Both node left right) scope s f l e =
      (askable (Both node left right) scope s.0 f.0 l.0 e.0, each_askable left scope s.1 f.1 l.1 e.1, each_askable right scope s.2 f.2 l.2 e.2)
  each_askable (Either node left right) scope s f l e =
      (askable (Either node left right) scope s.0 f.0 l.0 e.0, each_askable left scope s.1 f.1 l.1 e.1, each_askable right scope s.2 f.2 l.2 e.2)
  each_askable (TestOr node guard test body) scope s f l e =
      (askable (TestOr node guard test body) scope s.0 f.0 l.0 e.0, each_askable body scope s.1 f.1 l.1 e.1)
  each_askable (Guarded node xs guard test body) scope s f l e =
      (askable (Guarded node xs guard test body) scope s.0 f.0 l.0 e.0, each_askable body (scope ++ xs) s.1 f.1 l.1 e.1)
  each_askable (EventuallyPlan node place low high body) scope s f l e =
      (askable (EventuallyPlan node place low high body) scope s.0 f.0 l.0 e.0, each_askable body scope s.1 f.1 l.1 e.1)
  each_askable (AlwaysPlan node place low high body) scope s f l e =
      (askable (AlwaysPlan node place low high body) scope s.0 f.0 l.0 e.0, each_askable body scope s.1 f.1 l.1 e.1)
  each_askable (UntilPlan node place low high left right) scope s f l e =
      (askable (UntilPlan node place low high left right) scope s.0 f.0 l.0 e.0, each_askable left scope s.1 f.1 l.1 e.1, each_askable right scope s.2 f.2 l.2 e.2)
  each_askable (NextPlan node place high body) scope s f l e =
      (askable (NextPlan node place high body) scope s.0 f.0 l.0 e.0, each_askable body scope s.1 f.1 l.1 e.1)

root_can : (guards : List (Formula × List VarId)) → AllByRecursion GuardBindsFresh guards → (plan : Plan) → IsWellFormed guards plan
    → CanEvaluatePlan guards plan no_values
root_can guards fresh plan formed = record {
  scope = [];
  can = each_askable guards fresh plan [] formed.scoped formed.safe formed.listed (AtEach-from_nodes EndsInTime plan [] formed.ends);
  fits = record { binds = λ x there. absurd (none_in_nil x there); only = λ x absent. finite.get-empty variable_cmp x };
}

pub roots_can : (guards : List BoundFormula) (placed : List PlacedGuard) (plans : List Plan) → AreCopies guards placed
    → AreWellFormed plans (guards_of guards) → AllByRecursion (λ plan. CanEvaluatePlan (map placed_guard placed) plan no_values) plans
roots_can guards placed plans copies formed =
    subst (λ gs. AllByRecursion (λ plan. CanEvaluatePlan gs plan no_values) plans) (same_guards guards placed copies)
    (AllByRecursion-weaker (IsWellFormed (guards_of guards)) (λ plan. CanEvaluatePlan (guards_of guards) plan no_values) plans
    (root_can (guards_of guards) formed.fresh) formed.each)

-- ---- the step in a longer trace

module _ (trace more : List Step) (step : Step) where
  pub one_more : (trace ++ step ∷ []) ++ more ≡ trace ++ step ∷ more
  one_more = append_assoc trace (step ∷ []) more

  agree : AgreeUpTo (length trace) (trace ++ step ∷ []) (trace ++ step ∷ more)
  agree k le = sym (ap (λ l. step_at l k) (sym one_more)
      ∙ get_or_append_left (trace ++ step ∷ []) more no_step k (omega (arith, le, length-append trace (step ∷ []))))

  pub step_here : step_at (trace ++ step ∷ more) (length trace) ≡ step
  step_here = get_or-append_seam trace step more no_step

  pub is_at : PastDecides → (past : Past) (now : AuditMoment) (guards : List BoundFormula) → AreCopies guards now.tables.guards
      → AllByRecursion LooksBack (guards_of guards) → now.position ≡ length trace → now.time ≡ step.time
      → now.events ≡ step.events → GuardsWillHold past now.time now.events now.tables
      → PastStands trace past → last_time trace ≤ now.time → IsTrace (trace ++ step ∷ more) → IsAt now (trace ++ step ∷ more)
  is_at decides past now guards copies back position time events hold stands later is_trace = record {
    is_trace = is_trace;
    there = omega (arith, position, length-append trace (step ∷ more));
    time = subst (λ n. (step_at (trace ++ step ∷ more) n).time ≡ now.time) (sym position) (ap (λ (s : Step). s.time) step_here ∙ sym time);
    events = subst (λ n. (step_at (trace ++ step ∷ more) n).events ≡ now.events) (sym position) (ap (λ (s : Step). s.events) step_here ∙ sym events);
    guards = λ number g is v binds.
        let told = hold trace step (sym time) (sym events) later stands number g is v binds in
        let past_of = placed_back now.tables.guards number g (subst (AllByRecursion LooksBack) (same_guards guards now.tables.guards copies) back) is in
        let same = decides (trace ++ step ∷ []) (trace ++ step ∷ more) (length trace) v (guard_formula g) past_of agree in
        let at = λ (p : ℕ). Sat (trace ++ step ∷ more) p v (guard_formula g) in (
          λ now_holds. subst at (sym position) (same.0 (told.0 now_holds)),
          λ sat. told.1 (same.1 (subst at position sat)),
        );
  }

-- ---- the verdict

module _ (policy : List Formula) (trace : List Step) where
  abbrev pub IsVerdictBy : Option RuleAt → Type 0
  IsVerdictBy first = IsJudged policy trace (length trace) (end_of trace) NothingElse [] first

  pub holds_by : IsVerdictBy None → IsVerdict policy trace Holds
  holds_by judged = λ k d within i there.
      judged.others (record { rule = k; position = i }) (get_or policy k d) (slice_get-get_or policy k d within) (inl there) tt
      (λ item in_none same. absurd (none_in_nil item in_none)) tt

  pub fails_by : (at : RuleAt) → IsVerdictBy (Some at) → IsVerdict policy trace (Fails at.rule at.position)
  fails_by at judged =
      let failed = judged.failed at refl in
      let below : at.position < length trace = ⊎_elim (λ less. less) (λ (same : (at.position ≡ length trace) × (at.rule < 0)). let none = same.1 in absurd (omega (arith, none))) failed.0 in record {
        there = below;
        broken = failed.1;
        least = λ i r less rule of. judged.others (record { rule = r; position = i }) rule of (inl (omega (arith, less, below))) (inl less)
            (λ item in_none same. absurd (none_in_nil item in_none)) tt;
        first = λ r less rule of. judged.others (record { rule = r; position = at.position }) rule of (inl below) (inr (refl, less))
            (λ item in_none same. absurd (none_in_nil item in_none)) tt;
      }

-- ---- an auditor and one step more

module _ (decides : PastDecides) (grows : TraceGrows) (new : LastIsTheNew) (before after : Auditing) (time : ℕ) (events : List Event)
    (trace : List Step) (audits : Audits before trace) (later : before.last ≤ time) where
  abbrev step : Step
  step = record { time = time; events = events }

  not_before : last_time trace ≤ time
  not_before = omega (arith, later, audits.last)

  module _ (tables : PastTables) (copies : AreCopies before.policy.guards tables.guards)
      (back : AllByRecursion LooksBack (guards_of before.policy.guards)) (hold : GuardsWillHold before.past time events tables)
      (takes : (longer : List Step) → IsAt (audit_moment time before.position events tables) longer
      → AreJudged (audited_rules before) longer (rule_at 0 before.position) before.asked before.broken
      → AreJudged (audited_rules before) longer (rule_at 0 (before.position + 1)) after.asked after.broken) where
    judged_more : (more : List Step) → IsTrace ((trace ++ step ∷ []) ++ more)
        → AreJudged (audited_rules before) ((trace ++ step ∷ []) ++ more) (end_of (trace ++ step ∷ [])) after.asked after.broken
    judged_more more is_trace =
        let longer = trace ++ step ∷ more in
        let is = subst IsTrace (one_more trace more step) is_trace in
        let at = is_at trace more step decides before.past (audit_moment time before.position events tables) before.policy.guards copies back audits.position refl refl hold audits.past
        not_before is in
        let was = subst (λ n. AreJudged (audited_rules before) longer (rule_at 0 n) before.asked before.broken) (sym audits.position) (audits.judged (step ∷ more) is) in
        let long : before.position + 1 ≡ length (trace ++ step ∷ []) = omega (arith, audits.position, length-append trace (step ∷ [])) in
        subst (λ l. AreJudged (audited_rules before) l (end_of (trace ++ step ∷ [])) after.asked after.broken) (sym (one_more trace more step))
        (subst (λ n. AreJudged (audited_rules before) longer (rule_at 0 n) after.asked after.broken) long (takes longer at was))

    pub audits_more : after.policy ≡ before.policy → after.position ≡ before.position + 1 → after.last ≡ time → HasNoRepeats events
        → PastStands (trace ++ step ∷ []) after.past → ((t : ℕ) → time ≤ t → AreUpToTimeOf t after.past.operators)
        → Audits after (trace ++ step ∷ [])
    audits_more policy position last distinct past up_to = record {
      is_trace = grows trace step audits.is_trace not_before distinct;
      position = omega (arith, position, audits.position, length-append trace (step ∷ []));
      last = last ∙ sym (new trace step);
      past = past;
      up_to = λ t le. up_to t (omega (arith, le, last));
      judged = λ more is. subst (λ p. AreJudged (formulas_for (typed_of p).plans) ((trace ++ step ∷ []) ++ more) (end_of (trace ++ step ∷ [])) after.asked after.broken) (sym policy)
          (judged_more more is);
    }

-- ---- the verdict of an auditor

judged_now : (auditor : Auditing) (trace : List Step) → Audits auditor trace
    → IsJudged (audited_rules auditor) trace (length trace) (end_of trace) NothingElse auditor.asked auditor.broken
judged_now auditor trace audits =
    subst (λ l. AreJudged (audited_rules auditor) l (end_of trace) auditor.asked auditor.broken) (append-nil trace)
    (audits.judged [] (subst IsTrace (sym (append-nil trace)) audits.is_trace))

module _ (auditor : Auditing) (first : Option RuleAt)
    (finds : (policy : List Formula) (trace : List Step) (end : RuleAt) → IsJudged policy trace (length trace) end NothingElse auditor.asked auditor.broken
    → IsJudged policy trace (length trace) end NothingElse [] first) where
  found : (trace : List Step) → Audits auditor trace → IsVerdictBy (audited_rules auditor) trace first
  found trace audits = finds (audited_rules auditor) trace (end_of trace) (judged_now auditor trace audits)

  pub verdict_holds : first ≡ None → (trace : List Step) → Audits auditor trace → IsVerdict (audited_rules auditor) trace Holds
  verdict_holds none trace audits =
      holds_by (audited_rules auditor) trace (subst (IsVerdictBy (audited_rules auditor) trace) none (found trace audits))

  pub verdict_fails : (at : RuleAt) → first ≡ Some at → (trace : List Step) → Audits auditor trace
      → IsVerdict (audited_rules auditor) trace (Fails at.rule at.position)
  verdict_fails at some trace audits =
      fails_by (audited_rules auditor) trace at (subst (IsVerdictBy (audited_rules auditor) trace) some (found trace audits))

-- ---- the front of a trace

module _ (at_end : LastIsAtTheEnd) (none_later : NoneIsLater) (trace : List Step) (is : IsTrace trace) (k : ℕ) (within : k < length trace) where
  pub front_before : last_time (take k trace) ≤ (step_at trace k).time
  front_before = by k refl
    where
      by : (n : ℕ) → n ≡ k → last_time (take n trace) ≤ (step_at trace k).time
      by zero same = omega arith
      by (suc j) same =
          let long : j + 1 ≡ length (take (suc j) trace) = omega (arith, same, within, length-take-le (suc j) trace (omega (arith, same, within))) in
          let last = at_end (take (suc j) trace) j long in
          let there : step_at (take (suc j) trace) j ≡ step_at trace j = get_or-take (suc j) trace j no_step (omega arith) in
          let ordered = is.ordered j k (omega (arith, same)) within in
          omega (arith, last, ap (λ (s : Step). s.time) there, ordered)

  pub within_last : (step_at trace k).time ≤ last_time trace
  within_last = none_later trace k is within

-- the step at a position, by whatever default it was found
pub same_step : (trace : List Step) (k : ℕ) (found : Step) → k < length trace → found ≡ get_or trace k found
    → (step_at trace k).time ≡ found.time
same_step trace k found within at = ap (λ (s : Step). s.time)
    (same_Some (step_at trace k) (get_or trace k found) (sym (slice_get-get_or trace k no_step within) ∙ slice_get-get_or trace k found within)
    ∙ sym at)
