-- The sorts of the values of rows that are kept.
use Rattle.enforcer_core.proofs.Vocabulary.{◌≡◌, ◌∙◌, ℕ, zero, suc, ◌+◌, List, [], ◌∷◌, ◌++◌, Some, Contains, length, map, refl, sym, ap, subst, arith, slice_get, AllByRecursion, All-contains}
use Rattle.enforcer_core.proofs.Vocabulary.{none-some, same_Some, AllByRecursion-contains, here, later, none_in_nil, there_from_get, rising_distinct, Valuation, no_values, value_at, valuation_of}
use Rattle.enforcer_core.proofs.Vocabulary.{variable_cmp_total, Step, VarId, Value, Formula, AreFreeVariables, SafeWithNoneListed, NoneBound, cell_at, value_at-with_inside, NameEntry, Sort, CanKeep}
use Rattle.enforcer_core.proofs.Vocabulary.{HeldAlone, KeptHeld, OperatorsCanBeKept, all_operators, operators, kept_operand, IsRowToKeep, KeptFor, numbered_operators, KeptRow, CanBeEvaluated}
use Rattle.enforcer_core.proofs.Vocabulary.{GuardsAreListed, GuardBindsFresh, Plan, FitTold, FitsTold, GuardTells, PlanKeepsSorts, SafeValuesFit, SortsFit, TraceFits, ValueFits, fit_under}
use Rattle.enforcer_core.proofs.Vocabulary.{fits_stable, formulas_in}
use Rattle.enforcer_core.proofs.RightSortLemmas.{AllKeepSorts}
use Rattle.enforcer_core.proofs.PlanSortLemmas.{fit_operands, guard_fits, told_plan}

-- ---- windows by their numbers

-- the number of the guard, and the operator, of a window; the guard has the operator
pub record IsWindow (n : ℕ) (fs : List Formula) (w guard : ℕ) (o : Formula) : Type 0 where
  pub there : slice_get (all_operators fs) w ≡ Some o
  pub place : ℕ
  pub number : guard ≡ n + place
  pub f : Formula
  pub at : slice_get fs place ≡ Some f
  pub has : Contains (operators f) o

-- in front, or after
front_or_behind : (n : ℕ) (os : List Formula) (rest : List (ℕ × Formula)) (more : List Formula) (w guard : ℕ)
    (o : Formula) (R : Type 0) → slice_get (map (λ (p : Formula). (n, p)) os ++ rest) w ≡ Some (guard, o)
    → (guard ≡ n → Contains os o → slice_get (os ++ more) w ≡ Some o → R) → ((v : ℕ) → slice_get rest v ≡ Some (guard, o) → (slice_get more v ≡ Some o → slice_get (os ++ more) w ≡ Some o) → R) → R
front_or_behind n [] rest more w guard o R e front behind = behind w e (λ at. at)
front_or_behind n (p ∷ os) rest more zero guard o R e front behind =
    let same : (n, p) ≡ (guard, o) = same_Some (n, p) (guard, o) e in
    front (sym (ap (λ (q : ℕ × Formula). q.0) same)) (subst (Contains (p ∷ os)) (ap (λ (q : ℕ × Formula). q.1) same) (here p os)) (ap (λ (q : ℕ × Formula). Some q.1) same)
front_or_behind n (p ∷ os) rest more (suc w) guard o R e front behind =
    front_or_behind n os rest more w guard o R e (λ is has at. front is (later o p os has) at) behind

pub window_at : (n : ℕ) (fs : List Formula) (w guard : ℕ) (o : Formula) → slice_get (numbered_operators n fs) w ≡ Some (guard, o) → IsWindow n fs w guard o
window_at n [] w guard o e = absurd (none-some (guard, o) e)
window_at n (f ∷ fs) w guard o e =
    front_or_behind n (operators f) (numbered_operators (suc n) fs) (all_operators fs) w guard o (IsWindow n (f ∷ fs) w guard o) e
    (λ is has at. record { there = at; place = 0; number = omega (arith, is); f = f; at = refl; has = has })
    (λ v there back. let i = window_at (suc n) fs v guard o there in let number = i.number in
    record { there = back i.there; place = suc i.place; number = omega (arith, number); f = i.f; at = i.at; has = i.has })

-- ---- rows

fit_told : (tells : VarId → Sort → Type 0) (columns : List VarId) (row : List Value) → length row
    ≡ length columns → ((k : ℕ) (x : VarId) (value : Value) → slice_get columns k ≡ Some x
    → slice_get row k ≡ Some value → FitsTold tells x value) → FitTold tells columns row
fit_told tells [] [] long each = tt
fit_told tells [] (value ∷ row) long each = absurd (omega (arith, long))
fit_told tells (x ∷ columns) [] long each = absurd (omega (arith, long))
fit_told tells (x ∷ columns) (value ∷ row) long each = (each 0 x value refl refl, fit_told tells columns row (omega (arith, long)) (λ k. each (suc k)))

guard_at : (guards : List (Formula × List VarId)) (k : ℕ) (f : Formula) → slice_get (formulas_in guards) k ≡ Some f → (bound : List VarId) × (slice_get guards k ≡ Some (f, bound))
guard_at [] k f e = absurd (none-some f e)
guard_at (g ∷ guards) zero f e = (g.1, ap (λ (h : Formula). Some (h, g.1)) (same_Some g.0 f e))
guard_at (g ∷ guards) (suc k) f e = guard_at guards k f e

-- what is the same for all plans: the operand of the row's operator was satisfied under the row's values
record IsHeld (guards : List (Formula × List VarId)) (trace : List Step) (r : KeptRow) (guard : ℕ) (operator : Formula) : Type 0 where
  f : Formula
  bound : List VarId
  at : slice_get guards guard ≡ Some (f, bound)
  has : Contains (operators f) operator
  columns : List VarId
  free : AreFreeVariables (kept_operand operator) columns
  long : length r.row ≡ length columns
  alone : HeldAlone trace (valuation_of columns r.row) (kept_operand operator)

is_held : OperatorsCanBeKept → KeptHeld → (guards : List (Formula × List VarId)) (trace : List Step) (r : KeptRow) → AllByRecursion CanBeEvaluated guards → AllByRecursion GuardBindsFresh guards
    → IsRowToKeep trace (all_operators (formulas_in guards)) r → (guard : ℕ) (operator : Formula)
    → slice_get (numbered_operators 0 (formulas_in guards)) r.window ≡ Some (guard, operator)
    → IsHeld guards trace r guard operator
is_held can_be_kept kept_held guards trace r safe fresh kept guard operator numbered = record {
  f = window.f;
  bound = found.0;
  at = subst (λ k. slice_get guards k ≡ Some (window.f, found.0)) {x = window.place} {y = guard} (let number = window.number in omega (arith, number)) found.1;
  has = window.has;
  columns = kept.columns;
  free = subst (λ o. AreFreeVariables (kept_operand o) kept.columns) same_operator kept.free;
  long = kept.fits;
  alone = kept_held trace operator (valuation_of kept.columns r.row) r.time can (subst (λ o. KeptFor trace o (valuation_of kept.columns r.row) r.time) same_operator kept.kept);
}
  where
    window : IsWindow 0 (formulas_in guards) r.window guard operator
    window = window_at 0 (formulas_in guards) r.window guard operator numbered

    found : (bound : List VarId) × (slice_get guards window.place ≡ Some (window.f, bound))
    found = guard_at guards window.place window.f window.at

    same_operator : kept.operator ≡ operator
    same_operator = same_Some kept.operator operator (sym kept.numbered ∙ window.there)

    guard_there : Contains guards (window.f, found.0)
    guard_there = there_from_get guards window.place (window.f, found.0) found.1

    can : CanKeep operator
    can = All-contains CanKeep (operators window.f) operator
        (can_be_kept window.f found.0 (AllByRecursion-contains CanBeEvaluated guards (window.f, found.0) safe
        guard_there) (AllByRecursion-contains GuardBindsFresh guards (window.f, found.0) fresh guard_there))
        window.has

-- a value under which the operand held is of its variable's sort
value_fits : SafeValuesFit → SafeWithNoneListed → (entries : List NameEntry) (sorts : VarId → Sort) (trace : List Step) (columns : List VarId) (v : Valuation) (operand : Formula)
    → TraceFits entries trace → HeldAlone trace v operand → AreFreeVariables operand columns → SortsFit entries sorts NoneBound operand → (x : VarId) → Contains columns x → ValueFits sorts v x
value_fits values_fit safe_listed entries sorts trace columns v operand trace_fits alone free fit x there = fits_stable sorts v x (λ no. alone.held (λ some. no (
    values_fit entries sorts trace some.0 operand [] [] v trace_fits (safe_listed operand alone.safe) alone.fresh
    (λ y b. b) (fit_under entries sorts operand (Contains []) NoneBound (λ y b. none_in_nil y b) fit)
    (λ y b. absurd (none_in_nil y b)) some.1 x ((free.exact x).0 there))))

-- a row that is kept of a trace that fits is of the sorts that are known of its window
pub kept_has_sorts : SafeValuesFit → SafeWithNoneListed → OperatorsCanBeKept → KeptHeld
    → (entries : List NameEntry) (plans : List Plan) (guards : List (Formula × List VarId)) (trace : List Step)
    (r : KeptRow)
    → AllKeepSorts entries plans → AllByRecursion (λ (p : Plan). GuardsAreListed guards p []) plans
    → AllByRecursion CanBeEvaluated guards → AllByRecursion GuardBindsFresh guards → TraceFits entries trace
    → IsRowToKeep trace (all_operators (formulas_in guards)) r → (guard : ℕ) (operator : Formula) → slice_get (numbered_operators 0 (formulas_in guards)) r.window ≡ Some (guard, operator)
    → (columns : List VarId) × AreFreeVariables (kept_operand operator) columns × FitTold (GuardTells entries plans guard) columns r.row
kept_has_sorts values_fit safe_listed can_be_kept kept_held entries plans guards trace r keep listed safe fresh trace_fits kept guard operator numbered =
    let h = is_held can_be_kept kept_held guards trace r safe fresh kept guard operator numbered in (
      h.columns,
      h.free,
      fit_told (GuardTells entries plans guard) h.columns r.row h.long (λ k x value at_k value_k sort tells.
          let own = AllByRecursion-contains (λ (p : Plan). (sorts : VarId → Sort) × PlanKeepsSorts entries sorts p) plans tells.0 keep tells.1 in
          let lies = AllByRecursion-contains (λ (p : Plan). GuardsAreListed guards p []) plans tells.0 listed tells.1 in
          let fit : SortsFit entries own.0 NoneBound h.f = guard_fits entries own.0 guards guard h.f h.bound h.at tells.0 [] lies own.1 tells.2 in
          let operand : SortsFit entries own.0 NoneBound (kept_operand operator) = fit_operands entries own.0 h.f NoneBound fit operator h.has in
          let there : Contains h.columns x = there_from_get h.columns k x at_k in
          let apart = rising_distinct variable_cmp_total h.columns h.free.rising in
          let value_at_x : value_at (valuation_of h.columns r.row) x
          ≡ Some value = value_at-with_inside h.columns r.row no_values x apart h.long there ∙ sym
          (cell_at h.columns r.row k x apart h.long at_k) ∙ value_k in
          let fits_x : ValueFits own.0 (valuation_of h.columns r.row) x = value_fits values_fit safe_listed entries
          own.0 trace h.columns (valuation_of h.columns r.row) (kept_operand operator) trace_fits h.alone h.free
          operand x there in
          fits_x value value_at_x ∙ told_plan entries own.0 x sort tells.0 [] own.1 tells.3),
    )
