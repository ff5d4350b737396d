-- That it is enough to meet what is pending after a clean trace: from its last step to its first.
use Rattle.obligations.proofs.Vocabulary.{◌≡◌, ℕ, zero, suc, ◌+◌, ◌<◌, ◌≤◌, false, List, [], ◌∷◌, ◌++◌, length, take, drop, Option, None, Some, length-append, refl, sym, ap, subst, ◌∙◌, arith, ⊎_elim}
use Rattle.obligations.proofs.Vocabulary.{append_assoc, AllByRecursion, find, option_map, cases_lt, false≢true, length-take-le, take-append-drop, take-append-le, take_all, All-cons, All-nil}
use Rattle.obligations.proofs.Vocabulary.{recursion_from_All, none-some, same_Some, IsTrace, Valuation, no_values, with_values, Step, VarId, Value, PastDecides, Sat, has_future, has_number, nodes}
use Rattle.obligations.proofs.Vocabulary.{nodes_of, formula_for, Plan, CausePlan, SuppressPlan, Both, Either, TestOr, Guarded, EventuallyPlan, AlwaysPlan, UntilPlan, NextPlan, AtEach-found}
use Rattle.obligations.proofs.Vocabulary.{AtEach-from_nodes, AtEach-nodes, FoundIsFirst, scoped_at, last_time, LastIsAtTheEnd, Begun, LacksNothing, time_now, Gathers, last_position, GuardLooksBack}
use Rattle.obligations.proofs.Vocabulary.{IsNodeByNumber, StandsIn, After, AtNode, BecomesAt, BegunByRoots, PendingAfter, HasDeadline, IsClean, IsCleanAt, MissingOf, PendsBehind, node_of, Residual}
use Rattle.obligations.proofs.Vocabulary.{AllHold, PendingIsEnough, StepIsEnough, CleanGrows, NothingIsPending, PendGrows, LooksAtNow, PlansStand, Instance}
use Rattle.std.proofs.Common.{slice_get}
use Rattle.obligations.proofs.SoundnessLemmas.{all_left, all_right, taken}
use Rattle.obligations.proofs.LawLemmas.{nothing_missed_is_enough, nothing_missed_is_enough_pending}
use Rattle.obligations.proofs.UniquenessLemmas.{pends_one}
use Rattle.obligations.proofs.RowsLemmas.{rows_are_one}

-- what holds of each node of a plan holds of each node of one of them
below : (P : Plan → Type 0) → FoundIsFirst → (plan node : Plan) (number : ℕ)
    → find (has_number number) (nodes plan) ≡ Some node → AllByRecursion P (nodes plan) → AllByRecursion P (nodes node)
below P first plan node number found all = by (scoped_at number plan []) refl
  where
    by : (at : Option (Plan × List VarId)) → scoped_at number plan [] ≡ at → AllByRecursion P (nodes node)
    by None is = absurd (none-some node (subst (λ (s : Option (Plan × List VarId)). option_map (λ (n : Plan × List VarId). n.0) s ≡ Some node) is (first plan [] number ∙ found)))
    by (Some (other, inner)) is =
        let same : other ≡ node = same_Some other node (subst (λ (s : Option (Plan × List VarId)). option_map (λ (n : Plan × List VarId). n.0) s ≡ Some node) is (first plan [] number ∙ found)) in
        subst (λ (n : Plan). AllByRecursion P (nodes n)) same
        (AtEach-nodes P other inner (AtEach-found (λ n scope. P n) plan other [] inner number is (AtEach-from_nodes P plan [] all)))

-- the node of an instance stands in the plan of its rule
pub stands_found : FoundIsFirst → (plans : List Plan) → PlansStand plans → (i : Instance) (node : Plan)
    → node_of plans i ≡ Some node → StandsIn plans i.rule node
stands_found first plans stand i node is = by (slice_get plans i.rule) refl is
  where
    by : (at : Option Plan) → slice_get plans i.rule ≡ at → find (has_number i.node) (nodes_of at) ≡ Some node → StandsIn plans i.rule node
    by None at found = absurd (none-some node found)
    by (Some plan) at found =
        let all : StandsIn plans i.rule plan = stand i.rule plan at in
        record {
          back = below GuardLooksBack first plan node i.node found all.back;
          named = below (IsNodeByNumber plans i.rule) first plan node i.node found all.named;
        }

module _ (past : PastDecides) (first : FoundIsFirst) (last : LastIsAtTheEnd) (plans : List Plan) (stand : PlansStand plans)
    (trace more : List Step) (is_trace : IsTrace (trace ++ more)) where
  abbrev longer : List Step
  longer = trace ++ more

  abbrev Meets : ℕ → List Instance → Type 0
  Meets from instances = AllByRecursion (Residual plans longer from) instances

  module _ (front rest : List Step) (splits : front ++ rest ≡ longer) (some : 0 < length front) where
    is_too : IsTrace (front ++ rest)
    is_too = subst IsTrace (sym splits) is_trace

    meets_too : (instances : List Instance) → Meets (length front) instances
        → AllByRecursion (Residual plans (front ++ rest) (length front)) instances
    meets_too instances owed =
        subst (λ (steps : List Step). AllByRecursion (Residual plans steps (length front)) instances) (sym splits) owed

    root_holds : (rule : ℕ) (plan : Plan) (begun : List Instance) → StandsIn plans rule plan
        → LacksNothing front plan no_values → Begun front rule plan no_values begun → Meets (length front) begun
        → Sat longer (last_position front) no_values (formula_for plan)
    root_holds rule plan begun stands lacks begins owed =
        subst (λ (steps : List Step). Sat steps (last_position front) no_values (formula_for plan)) splits
        (nothing_missed_is_enough past plans rule plan front rest no_values begun stands is_too some lacks begins (meets_too begun owed))

    roots_hold : (rule : ℕ) (others : List Plan) (begun : List Instance)
        → ((k : ℕ) (plan : Plan) → slice_get others k ≡ Some plan → StandsIn plans (rule + k) plan)
        → AllByRecursion (λ plan. LacksNothing front plan no_values) others → BegunByRoots front rule others begun
        → Meets (length front) begun → AllHold longer (last_position front) others
    roots_hold rule [] begun stands lacks begins owed = tt
    roots_hold rule (plan ∷ others) begun stands lacks (begun1, begun2, begins, behind, are) owed =
        let owed' : Meets (length front) (begun1 ++ begun2) = subst (Meets (length front)) are owed in (
          root_holds rule plan begun1 (subst (λ (r : ℕ). StandsIn plans r plan) {x = rule + 0} {y = rule} (omega arith) (stands 0 plan refl)) lacks.0 begins
              (all_left (Residual plans longer (length front)) begun1 begun2 owed'),
          roots_hold (suc rule) others begun2 (λ k p at. subst (λ (r : ℕ). StandsIn plans r p) {x = rule + suc k} {y = suc rule + k} (omega arith) (stands (suc k) p at)) lacks.1 behind
              (all_right (Residual plans longer (length front)) begun1 begun2 owed'),
        )

    instance_met : (i : Instance) (after : List Instance) → MissingOf plans front i false []
        → ((deadline : ℕ) → HasDeadline plans i deadline → time_now front ≤ deadline)
        → After plans front i after → Meets (length front) after → Residual plans longer (last_position front) i
    instance_met i after missing in_time becomes owed = by (node_of plans i) refl becomes
      where
        by : (found : Option Plan) → node_of plans i ≡ found → AtNode found (λ node. BecomesAt front node i after)
            → Residual plans longer (last_position front) i
        by None is none = absurd none
        by (Some node) is becomes' =
            subst (λ (steps : List Step). Residual plans steps (last_position front) i) splits
            (nothing_missed_is_enough_pending past plans node front rest i after is (stands_found first plans stand i node is) is_too some missing
            (All-cons (λ (j : Instance). (deadline : ℕ) → HasDeadline plans j deadline → time_now front ≤ deadline) i [] in_time
            (All-nil (λ (j : Instance). (deadline : ℕ) → HasDeadline plans j deadline → time_now front ≤ deadline)))
            becomes (meets_too after owed))

    instances_met : (before kept : List Instance) → Gathers (After plans front) before kept
        → AllByRecursion (λ i. MissingOf plans front i false []) before
        → AllByRecursion (λ i. (deadline : ℕ) → HasDeadline plans i deadline → time_now front ≤ deadline) before
        → Meets (length front) kept → Meets (last_position front) before
    instances_met [] kept goes missing in_time owed = tt
    instances_met (i ∷ before) kept (kept1, kept2, becomes, behind, are) missing in_time owed =
        let owed' : Meets (length front) (kept1 ++ kept2) = subst (Meets (length front)) are owed in (
          instance_met i kept1 missing.0 in_time.0 becomes (all_left (Residual plans longer (length front)) kept1 kept2 owed'),
          instances_met before kept2 behind missing.1 in_time.1 (all_right (Residual plans longer (length front)) kept1 kept2 owed'),
        )

    pub step_met : (before after : List Instance) → IsCleanAt plans front before → PendingAfter plans front before after
        → Meets (length front) after → Meets (last_position front) before × AllHold longer (last_position front) plans
    step_met before after clean (kept, begun, goes, begins, are) owed =
        let now : last_time front ≡ time_now front = last front (last_position front) (omega (arith, some)) in
        let owed' : Meets (length front) (kept ++ begun) = subst (Meets (length front)) are owed in (
          instances_met before kept goes (recursion_from_All _ before clean.instances)
              (subst (λ (t : ℕ). AllByRecursion (λ i. (deadline : ℕ) → HasDeadline plans i deadline → t ≤ deadline) before) now (recursion_from_All _ before clean.in_time))
              (all_left (Residual plans longer (length front)) kept begun owed'),
          roots_hold 0 plans begun
              (λ k plan found. subst (λ (r : ℕ). StandsIn plans r plan) {x = k} {y = 0 + k} (omega arith) (stand k plan found)) (recursion_from_All _ plans clean.roots) begins
              (all_right (Residual plans longer (length front)) kept begun owed'),
        )

  module _ (clean : IsClean plans trace) where
    clean_at : (n : ℕ) → n < length trace → (before : List Instance) → PendsBehind plans trace n before
        → IsCleanAt plans (take (suc n) trace) before
    clean_at n within before pend =
        let c = clean n within in
        subst (IsCleanAt plans (take (suc n) trace)) (pends_one rows_are_one plans trace n c.0 before c.1 pend) c.2

    pub met_behind : (n : ℕ) → n ≤ length trace → (pending : List Instance) → PendsBehind plans trace n pending
        → Meets n pending → (position : ℕ) → position < n → AllHold longer position plans
    met_behind zero le pending pend owed position under = absurd (omega (arith, under))
    met_behind (suc n) le pending (before, pend, goes) owed position under =
        let count : length (take (suc n) trace) ≡ suc n = length-take-le (suc n) trace le in
        let splits : take (suc n) trace ++ (drop (suc n) trace ++ more) ≡ trace ++ more =
        sym (append_assoc (take (suc n) trace) (drop (suc n) trace) more) ∙ ap (λ (steps : List Step). steps ++ more) (take-append-drop (suc n) trace) in
        let at : last_position (take (suc n) trace) ≡ n = omega (arith, count) in
        let met = step_met (take (suc n) trace) (drop (suc n) trace ++ more) splits (omega (arith, count)) before pending
        (clean_at n (omega (arith, le)) before pend) goes (subst (λ (m : ℕ). Meets m pending) (sym count) owed) in
        ⊎_elim
        (λ (l : position < n). met_behind n (omega (arith, le)) before pend (subst (λ (m : ℕ). Meets m before) at met.0) position l)
        (λ (g : n ≤ position). subst (λ (m : ℕ). AllHold longer m plans) {x = last_position (take (suc n) trace)} {y = position} (omega (arith, under, g, at)) met.1)
        (cases_lt position n)

pub step_is_enough : PastDecides → FoundIsFirst → LastIsAtTheEnd → StepIsEnough
step_is_enough past first last plans trace more before after stand is_trace some clean goes owed =
    step_met past first last plans stand trace more is_trace trace more refl some before after clean goes owed

pub pending_is_enough : PastDecides → FoundIsFirst → LastIsAtTheEnd → PendingIsEnough
pending_is_enough past first last plans trace more pending stand is_trace clean pend owed position within =
    met_behind past first last plans stand trace more is_trace clean (length trace) (omega arith) pending pend owed position within

-- ---- plans that do not look ahead

module _ (trace : List Step) (rule : ℕ) where
  none_at_rows : (body : Plan) → ((v : Valuation) (begun : List Instance) → Begun trace rule body v begun → begun ≡ [])
      → (v : Valuation) (xs : List VarId) (rows : List (List Value)) (begun : List Instance)
      → Gathers (λ row. Begun trace rule body (with_values xs row v)) rows begun → begun ≡ []
  none_at_rows body none v xs [] begun gathered = gathered
  none_at_rows body none v xs (row ∷ rows) begun (begun1, begun2, begins, behind, are) =
      are ∙ ap (λ (l : List Instance). l ++ begun2) (none (with_values xs row v) begun1 begins) ∙ none_at_rows body none v xs rows begun2 behind

  pub none_begun : (plan : Plan) → LooksAtNow plan → (v : Valuation) (begun : List Instance) → Begun trace rule plan v begun
      → begun ≡ []
  none_begun (CausePlan node place name terms) all v begun begins = begins
  none_begun (SuppressPlan node place name terms) all v begun begins = begins
  none_begun (Both node left right) all v begun (begun1, begun2, begins, behind, are) =
      are ∙ ap (λ (l : List Instance). l ++ begun2) (none_begun left (all_left _ (nodes left) (nodes right) all.1) v begun1 begins)
      ∙ none_begun right (all_right _ (nodes left) (nodes right) all.1) v begun2 behind
  none_begun (Either node left right) all v begun begins =
      let on_left : LacksNothing trace left v × Begun trace rule left v begun → begun ≡ [] = λ side. none_begun left (all_left _ (nodes left) (nodes right) all.1) v begun side.1 in
      let on_right : LacksNothing trace right v × Begun trace rule right v begun → begun ≡ [] = λ side. none_begun right (all_right _ (nodes left) (nodes right) all.1) v begun side.1 in
      ⊎_elim on_right
      (λ second. ⊎_elim on_left
      (λ third. ⊎_elim on_right (λ fourth. ⊎_elim on_left (λ neither. neither.1) fourth.1) third)
      (taken (has_future left) trace left v second))
      (taken (has_future right) trace right v begins)
  none_begun (TestOr node guard test body) all v begun begins =
      ⊎_elim (λ met. met.1) (λ fails. none_begun body all.1 v begun fails.1) begins
  none_begun (Guarded node xs guard test body) all v begun (rows, are, gathered) =
      none_at_rows body (none_begun body all.1) v xs rows begun gathered
  none_begun (EventuallyPlan node place low high body) all v begun begins = absurd (false≢true (sym all.0))
  none_begun (AlwaysPlan node place low high body) all v begun begins = absurd (false≢true (sym all.0))
  none_begun (UntilPlan node place low high left right) all v begun begins = absurd (false≢true (sym all.0))
  none_begun (NextPlan node place high body) all v begun begins = absurd (false≢true (sym all.0))

none_by_roots : (trace : List Step) (rule : ℕ) (plans : List Plan) (begun : List Instance) → AllByRecursion LooksAtNow plans
    → BegunByRoots trace rule plans begun → begun ≡ []
none_by_roots trace rule [] begun all begins = begins
none_by_roots trace rule (plan ∷ plans) begun all (begun1, begun2, begins, behind, are) =
    are ∙ ap (λ (l : List Instance). l ++ begun2) (none_begun trace rule plan all.0 no_values begun1 begins) ∙ none_by_roots trace (suc rule) plans begun2 all.1 behind

none_behind : (plans : List Plan) (trace : List Step) → AllByRecursion LooksAtNow plans → (n : ℕ) (pending : List Instance)
    → PendsBehind plans trace n pending → pending ≡ []
none_behind plans trace all zero pending pend = pend
none_behind plans trace all (suc n) pending (before, pend, (kept, begun, goes, begins, are)) =
    let nothing : kept ≡ [] = subst (λ (l : List Instance). Gathers (After plans (take (suc n) trace)) l kept) (none_behind plans trace all n before pend) goes in
    are ∙ ap (λ (l : List Instance). l ++ begun) nothing ∙ none_by_roots (take (suc n) trace) 0 plans begun all begins

pub nothing_is_pending : NothingIsPending
nothing_is_pending plans trace pending all pend = none_behind plans trace all (length trace) pending pend

-- ---- one step more

-- what is pending after the first steps is so on a longer trace
pub longer_pends : (plans : List Plan) (trace more : List Step) (n : ℕ) → n ≤ length trace → (pending : List Instance)
    → PendsBehind plans trace n pending → PendsBehind plans (trace ++ more) n pending
longer_pends plans trace more zero le pending pend = pend
longer_pends plans trace more (suc n) le pending (before, pend, goes) = (
  before,
  longer_pends plans trace more n (omega (arith, le)) before pend,
  subst (λ (front : List Step). PendingAfter plans front before pending) (sym (take-append-le (suc n) trace more le)) goes,
)

-- and the other way round
pub shorter_pends : (plans : List Plan) (trace more : List Step) (n : ℕ) → n ≤ length trace → (pending : List Instance)
    → PendsBehind plans (trace ++ more) n pending → PendsBehind plans trace n pending
shorter_pends plans trace more zero le pending pend = pend
shorter_pends plans trace more (suc n) le pending (before, pend, goes) = (
  before,
  shorter_pends plans trace more n (omega (arith, le)) before pend,
  subst (λ (front : List Step). PendingAfter plans front before pending) (take-append-le (suc n) trace more le) goes,
)

pub whole : (trace : List Step) (step : Step) → take (suc (length trace)) (trace ++ step ∷ []) ≡ trace ++ step ∷ []
whole trace step = take_all (suc (length trace)) (trace ++ step ∷ []) (omega (arith, length-append trace (step ∷ [])))

pub pend_grows : PendGrows
pend_grows plans trace step before after pend goes =
    subst (λ (n : ℕ). PendsBehind plans (trace ++ step ∷ []) n after) {x = suc (length trace)} {y = length (trace ++ step ∷ [])} (omega (arith, length-append trace (step ∷ []))) (
      before,
      longer_pends plans trace (step ∷ []) (length trace) (omega arith) before pend,
      subst (λ (front : List Step). PendingAfter plans front before after) (sym (whole trace step)) goes,
    )

pub clean_grows : CleanGrows
clean_grows plans trace step before clean pend now steps within =
    ⊎_elim
    (λ (l : steps < length trace).
    let c = clean steps l in (
      c.0,
      longer_pends plans trace (step ∷ []) steps (omega (arith, l)) c.0 c.1,
      subst (λ (front : List Step). IsCleanAt plans front c.0) (sym (take-append-le (suc steps) trace (step ∷ []) (omega (arith, l)))) c.2,
    ))
    (λ (g : length trace ≤ steps).
    let at : length trace ≡ steps = omega (arith, g, within, length-append trace (step ∷ [])) in
    subst (λ (n : ℕ). (pending : List Instance) × PendsBehind plans (trace ++ step ∷ []) n pending × IsCleanAt plans (take (suc n) (trace ++ step ∷ [])) pending) at (
      before,
      longer_pends plans trace (step ∷ []) (length trace) (omega arith) before pend,
      subst (λ (front : List Step). IsCleanAt plans front before) (sym (whole trace step)) now,
    ))
    (cases_lt steps (length trace))
