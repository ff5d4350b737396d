-- What is kept of a trace keeps the bounds of states.
use Rattle.enforcer_core.proofs.Vocabulary.{◌≡◌, ◌∙◌, ◌↔◌, ℕ, ◌<◌, ◌≤◌, ◌^◌, List, [], ◌∷◌, All, Option, None, Some, Contains, length, map, sum, refl, sym, ap, subst, arith, slice_get, AllByRecursion}
use Rattle.enforcer_core.proofs.Vocabulary.{sum_by, option_map, All-contains, sum-map, none-some, slice_get_within, IsTrace, AllByRecursion-contains, AllByRecursion-weaker, there_from_get, value_at}
use Rattle.enforcer_core.proofs.Vocabulary.{Step, VarId, Value, Formula, formula_size, SafeWithNoneListed, has_sort-sort, has_sort, NameEntry, ReadIsWellFormed, most_time, System, NoMoreThanNodes}
use Rattle.enforcer_core.proofs.Vocabulary.{KeptHeld, OperatorsCanBeKept, IsFrom, IsLastTime, all_operators, IsRowToKeep, KeptAreWithinBounds, KeptRow, CanBeEvaluated, GuardsAreListed, AreWellFormed}
use Rattle.enforcer_core.proofs.Vocabulary.{IsWellFormed, NumberIsPlace, FoundIsFirst, nodes, Plan, IsScopedPlan, future_in, PolicyKeepsSorts, ReadIsSorted, SafeValuesFit, PolicyGuardsAreSafe}
use Rattle.enforcer_core.proofs.Vocabulary.{formulas_of, TraceFits, CanBePending, PendCanBePending, IsReady, Pend, PendIsOne, PendingIsRight, Instance, RuleTells, IsSnapshotOf, FitsTold, IsSoundState}
use Rattle.enforcer_core.proofs.Vocabulary.{IsSoundRow, SoundKeepsBounds, Snapshot, HighsAreNear, SavedKeepsBounds, saved_bounds, formulas_in}
use Rattle.enforcer_core.proofs.KeptSortLemmas.{kept_has_sorts}
use Rattle.enforcer_core.proofs.RightSortLemmas.{AllKeepSorts, gives_right, sorts_in, sorts_keep}
use Rattle.enforcer_core.proofs.SnapshotLemmas.{can_pend, kept_at, last_from}
use Rattle.enforcer_core.proofs.PlanSortLemmas.{told_plan}

-- ---- numbers

-- there is no last time just where there is no step
none_first : (trace : List Step) (last : Option ℕ) → IsLastTime trace last → (last ≡ None) ↔ (length trace ≡ 0)
none_first trace None is = (λ none. ap length is, λ zero. refl)
none_first trace (Some last) is = (λ none. absurd (none-some last (sym none)), λ zero. absurd (omega (arith, is.0, zero)))

sizes_in : (guards : List (Formula × List VarId)) → map formula_size (formulas_in guards) ≡ map (λ (g : Formula × List VarId). formula_size g.0) guards
sizes_in [] = refl
sizes_in (g ∷ guards) = ap (λ l. formula_size g.0 ∷ l) (sizes_in guards)

-- windows can be numbered with 32 bits
window_bits : NoMoreThanNodes → (guards : List (Formula × List VarId)) (window : ℕ) (operator : Formula) → sum_by (λ (g : Formula × List VarId). formula_size g.0) guards < 2 ^ 32
    → slice_get (all_operators (formulas_in guards)) window ≡ Some operator → window < 2 ^ 32
window_bits most guards window operator small at =
    let within = slice_get_within (all_operators (formulas_in guards)) window operator at in
    let count = most (formulas_in guards) in
    let sizes = ap sum (sizes_in guards) ∙ sum-map (λ (g : Formula × List VarId). formula_size g.0) guards in
    omega (arith, within, count, sizes, small)

-- so can rules and nodes
instance_bits : FoundIsFirst → NumberIsPlace → (plans : List Plan) (guards : List (Formula × List VarId))
    (clock position : ℕ) (i : Instance) → AreWellFormed plans guards → CanBePending plans clock position i
    → (i.rule < 2 ^ 32) × (i.node < 2 ^ 32)
instance_bits is_first place plans guards clock position i formed can =
    let at = kept_at is_first plans clock position i can in
    let rule = slice_get_within plans i.rule at.0 at.1 in
    let plan = AllByRecursion-contains (IsWellFormed guards) plans at.0 formed.each (there_from_get plans i.rule at.0 at.1) in
    let found : slice_get (nodes at.0) i.node ≡ Some can.node =
    sym (place at.0 i.node plan.numbered) ∙ sym (is_first at.0 [] i.node) ∙ ap (option_map (λ (n : Plan × List VarId). n.0)) at.2 in
    let node = slice_get_within (nodes at.0) i.node can.node found in
    let few = formed.few in
    let small = plan.small in
    (omega (arith, rule, few), omega (arith, node, small))

-- ---- sorts

all_scoped : (guards : List (Formula × List VarId)) (plans : List Plan) → AllByRecursion (IsWellFormed guards) plans → AllByRecursion (λ (p : Plan). IsScopedPlan p []) plans
all_scoped guards plans each = AllByRecursion-weaker (IsWellFormed guards) (λ (p : Plan). IsScopedPlan p []) plans (λ p formed. formed.scoped) each

all_listed : (guards : List (Formula × List VarId)) (plans : List Plan) → AllByRecursion (IsWellFormed guards) plans → AllByRecursion (λ (p : Plan). GuardsAreListed guards p []) plans
all_listed guards plans each = AllByRecursion-weaker (IsWellFormed guards) (λ (p : Plan). GuardsAreListed guards p []) plans (λ p formed. formed.listed) each

-- the values of what is pending are of the sorts that are told
value_told : PendingIsRight → (entries : List NameEntry) (plans : List Plan) (guards : List (Formula × List VarId)) (trace : List Step) (pending : List Instance) (i : Instance)
    → AreWellFormed plans guards → AllKeepSorts entries plans → TraceFits entries trace
    → Pend plans trace pending → Contains pending i → (node : Plan) (scope : List VarId)
    → future_in plans i.rule i.node ≡ Some (node, scope)
    → (x : VarId) (value : Value) → Contains scope x → value_at i.valuation x ≡ Some value → FitsTold (RuleTells entries plans i.rule) x value
value_told is_right entries plans guards trace pending i formed keep trace_fits pend there node scope named x value inside at sort told =
    let sorts = sorts_in entries plans keep in
    let right = is_right plans guards trace pending (λ rule y other. has_sort (sorts rule y) other) formed
    (λ rule p p_at. gives_right entries (sorts rule) p trace trace_fits
    (AllByRecursion-contains (IsWellFormed guards) plans p formed.each (there_from_get plans rule p p_at)).scoped
    (sorts_keep entries plans keep rule p p_at))
    pend i there node scope named x value inside at in
    has_sort-sort (sorts i.rule x) value right ∙ told_plan entries (sorts i.rule) x sort told.0 [] (sorts_keep entries plans keep i.rule told.0 told.1) told.2

-- ---- the state

module _ (found_first : FoundIsFirst) (place : NumberIsPlace) (most : NoMoreThanNodes) (values_fit : SafeValuesFit)
    (safe_listed : SafeWithNoneListed) (can_be_kept : OperatorsCanBeKept) (kept_held : KeptHeld)
    (is_right : PendingIsRight) (pends : PendCanBePending) (within : KeptAreWithinBounds) (one : PendIsOne) (near : HighsAreNear) where
  is_sound : (entries : List NameEntry) (plans : List Plan) (guards : List (Formula × List VarId))
      (trace : List Step) (clock : ℕ) (s : Snapshot) → AllKeepSorts entries plans
      → AllByRecursion CanBeEvaluated guards
      → AreWellFormed plans guards → IsTrace trace → IsReady plans trace clock → clock ≤ most_time System → TraceFits entries trace → length trace < 2 ^ 63
      → IsSnapshotOf plans (all_operators (formulas_in guards)) trace clock s → IsSoundState (saved_bounds entries plans guards) s
  is_sound entries plans guards trace clock s keep safe formed is_trace ready early trace_fits short is =
      let due = near plans guards trace s.pending clock formed is_trace is.pending ready.not_later early in
      let first = none_first trace s.last is.last in
      let can : All (CanBePending plans s.clock s.position) s.pending =
      subst (λ n. All (CanBePending plans s.clock n) s.pending) (sym is.position) (subst (λ c. All (CanBePending plans c (length trace)) s.pending) (sym is.clocked)
      (can_pend pends one plans guards trace clock s.pending formed ready is.pending)) in
      let clocked = is.clocked in
      let positioned = is.position in
      record {
        clock = omega (arith, clocked, early);
        last = subst (IsFrom s.last) (sym is.clocked) (last_from trace s.last clock is.last ready.not_later);
        position = (λ none. is.position ∙ first.0 none, λ zero. first.1 (sym is.position ∙ zero));
        small = omega (arith, positioned, short);
        kept = within trace s.last (all_operators (formulas_in guards)) s.kept is_trace is.last is.rising is.kept;
        pending = can;
        due = due;
        rows = λ r there. is_sound_row r ((is.kept r).0 there);
        instances = λ i there.
            let bits = instance_bits found_first place plans guards s.clock s.position i formed (All-contains (CanBePending plans s.clock s.position) s.pending i can there) in
            record { rule_bits = bits.0; node_bits = bits.1; sorts = value_told is_right entries plans guards trace s.pending i formed keep trace_fits is.pending there };
      }
    where
      is_sound_row : (r : KeptRow) → IsRowToKeep trace (all_operators (formulas_in guards)) r → IsSoundRow (saved_bounds entries plans guards) r
      is_sound_row r kept = record {
        bits = window_bits most guards r.window kept.operator formed.small kept.numbered;
        sorts = kept_has_sorts values_fit safe_listed can_be_kept kept_held entries plans guards trace r keep (all_listed guards plans formed.each) safe formed.fresh trace_fits kept;
      }

  pub saved_keeps : ReadIsSorted → ReadIsWellFormed → PolicyKeepsSorts → PolicyGuardsAreSafe → SoundKeepsBounds → SavedKeepsBounds
  saved_keeps sorted read keep_sorts guards_safe keeps entries rules bytes plans guards trace clock s text planned formed is_trace ready early trace_fits short is =
      keeps (saved_bounds entries plans guards) s (all_scoped guards plans formed.each)
      (is_sound entries plans guards trace clock s
      (keep_sorts entries rules plans guards (read entries bytes rules text) (sorted entries bytes rules text) planned)
      (guards_safe entries (formulas_of rules) plans guards planned)
      formed is_trace ready early trace_fits short is)
