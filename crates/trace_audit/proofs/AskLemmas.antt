-- What evaluating a plan takes: guards at their numbers, variables that have values, and rows of tables.
use Rattle.trace_audit.proofs.Vocabulary.{◌≡◌, ℕ, zero, suc, ◌<◌, List, [], ◌∷◌, ◌++◌, length, map, Contains, Some, IsTrue, refl, sym, ap, subst, arith, ⊎_elim, ◌∙◌, ◌↔◌, slice_get, IsSome}
use Rattle.trace_audit.proofs.Vocabulary.{AllByRecursion, Contains-append_left, Contains-append_right, same_Some, none-some, AllByRecursion-contains, AllByRecursion-from_contains, Contains-append}
use Rattle.trace_audit.proofs.Vocabulary.{HasNoRepeats, Valuation, value_at, with_values, BindsColumns, Step, VarId, Value, some_value, Formula, IsFree, Sat, new_apart, AreNewVariables, AreOpen}
use Rattle.trace_audit.proofs.Vocabulary.{AreEvaluated, IsEvaluated, BindsBound, HasOpenColumns, IsGuard, IsTestOf, PastTables, guard_formula, tables_of, PlacedGuard, ColumnsAreVariables, Plan}
use Rattle.trace_audit.proofs.Vocabulary.{Guarded, AtEach, FitsScope, agrees_once, cell_some, table_row-length, value_at-with_inside, value_at-with_outside, filled_fresh, filled_from_row}
use Rattle.trace_audit.proofs.Vocabulary.{AgreeOnColumns, AgreesWithRow, IsTable, Relation, CanEvaluatePlan, IsAskable, IsAt, AuditMoment, guards_at, placed_guard, PlanHoldsAt}
use Rattle.std.specs.Prelude.{Bool}
use Rattle.monitorable_guard.specs.machine.Evaluation as evaluation

-- ---- a guard at its number

listed : (guards : List PlacedGuard) (n : ℕ) (f : Formula) (scope : List VarId)
    → slice_get (map placed_guard guards) n ≡ Some (f, scope)
    → (g : PlacedGuard) × (slice_get guards n ≡ Some g) × (n < length guards) × (guard_formula g ≡ f) × (g.guard.bound ≡ scope)
listed [] n f scope e = absurd (none-some (f, scope) e)
listed (g ∷ guards) zero f scope e =
    let same = same_Some (placed_guard g) (f, scope) e in
    (g, refl, omega arith, ap (λ p. p.0) same, ap (λ p. p.1) same)
listed (g ∷ guards) (suc n) f scope e =
    let (h, found, within, formula, bound) = listed guards n f scope e in (h, found, omega (arith, within), formula, bound)

module _ (tables : PastTables) (n : ℕ) (f : Formula) (scope : List VarId)
    (at : slice_get (guards_at tables) n ≡ Some (f, scope)) where
  the_guard : (g : PlacedGuard) × (slice_get tables.guards n ≡ Some g) × (n < length tables.guards) × (guard_formula g ≡ f) × (g.guard.bound ≡ scope)
  the_guard = listed tables.guards n f scope at

  pub within : n < length tables.guards
  within = the_guard.2

  is_guard : (g : PlacedGuard) → IsGuard tables.guards n g → (guard_formula g ≡ f) × (g.guard.bound ≡ scope)
  is_guard g found =
      let same : the_guard.0 ≡ g = same_Some the_guard.0 g (sym the_guard.1 ∙ found) in
      (ap guard_formula (sym same) ∙ the_guard.3, ap (λ h. h.guard.bound) (sym same) ∙ the_guard.4)

  pub binds_bound : (v : Valuation) → BindsColumns v scope → BindsBound tables.guards n v
  binds_bound v binds g found = subst (BindsColumns v) (sym (is_guard g found).1) binds

  pub is_test : ((x : VarId) → IsFree x f → Contains scope x) → IsTestOf tables.guards n
  is_test free g found x of =
      subst (λ xs. Contains xs x) (sym (is_guard g found).1) (free x (subst (IsFree x) (is_guard g found).0 of))

-- ---- variables that have values

module _ (scope xs : List VarId) (new : AreNewVariables scope xs) (distinct : HasNoRepeats xs) (v : Valuation)
    (fit : FitsScope scope v) where
  filled_is : (row : List Value) → filled_from_row v xs row ≡ with_values xs row v
  filled_is row = filled_fresh v xs row distinct (λ x there. fit.only x (new_apart scope xs new x there))

  module _ (row : List Value) (long : length row ≡ length xs) where
    same_on_scope : AgreeOnColumns scope v (with_values xs row v)
    same_on_scope x there = sym (value_at-with_outside xs row v x (λ brought. new_apart scope xs new x brought there))

    row_values : (x : VarId) → Contains xs x → IsSome (value_at (with_values xs row v) x)
    row_values x there =
        let some = cell_some xs row x long there in
        some_value (value_at (with_values xs row v) x) some.0 (value_at-with_inside xs row v x distinct long there ∙ some.1)

    under_row : FitsScope (scope ++ xs) (with_values xs row v)
    under_row = record {
      binds = λ x there. ⊎_elim
          (λ old. subst IsSome (same_on_scope x old) (fit.binds x old))
          (λ brought. row_values x brought)
          (Contains-append scope xs x there);
      only = λ x absent. value_at-with_outside xs row v x (λ brought. absent (Contains-append_right scope xs x brought))
          ∙ fit.only x (λ old. absent (Contains-append_left scope xs x old));
    }

-- ---- a test

-- a test holds at the step where it holds by its tables
pub test_is : (now : AuditMoment) (trace : List Step) (n : ℕ) (f : Formula) (scope : List VarId)
    → slice_get (guards_at now.tables) n ≡ Some (f, scope) → ((x : VarId) → IsFree x f → Contains scope x)
    → IsAt now trace → (v : Valuation) → BindsColumns v scope → (holds : Bool)
    → IsEvaluated now.tables n now.events v holds → IsTrue holds ↔ Sat trace now.position v f
test_is now trace n f scope at free is v binds holds evaluated =
    let (g, found, within, formula, bound) = the_guard now.tables n f scope at in
    let told = evaluated g found in
    let on_trace = is.guards n g found v (λ x of. binds x (free x (subst (IsFree x) formula of))) in (
      λ is_true. subst (Sat trace now.position v) formula (on_trace.0 (told.0 is_true)),
      λ holds. told.1 (on_trace.1 (subst (Sat trace now.position v) (sym formula) holds)),
    )

-- ---- the rows of a guard

module _ (law : ColumnsAreVariables) (now : AuditMoment) (node n : ℕ) (f : Formula) (body : Plan) (scope xs : List VarId)
    (asked : IsAskable (guards_at now.tables) (Guarded node xs n f body) scope) (v : Valuation)
    (fit : FitsScope scope v) (t : Relation) (table : IsTable t) (columns : HasOpenColumns now.tables n t)
    (evaluated : AreEvaluated now.tables n now.events v t) where
  abbrev g : PlacedGuard
  g = (the_guard now.tables n f scope asked.listed).0

  abbrev found : IsGuard now.tables.guards n g
  found = (the_guard now.tables n f scope asked.listed).1

  abbrev formula_is : guard_formula g ≡ f
  formula_is = (the_guard now.tables n f scope asked.listed).3

  abbrev bound_is : g.guard.bound ≡ scope
  bound_is = (the_guard now.tables n f scope asked.listed).4

  opens : AreOpen f scope t.columns
  opens = subst (λ h. AreOpen h scope t.columns) formula_is
      (subst (λ b. AreOpen (guard_formula g) b t.columns) bound_is (columns g found))

  same_columns : t.columns ≡ xs
  same_columns = law node n xs f body scope t.columns asked.scoped asked.safe opens

  same_table : t ≡ record { columns = xs; rows = t.rows }
  same_table = ap (λ c. record { columns = c; rows = t.rows }) same_columns

  is_table : IsTable (record { columns = xs; rows = t.rows })
  is_table = subst IsTable same_table table

  distinct : HasNoRepeats xs
  distinct = is_table.distinct

  row_fits : (row : List Value) → Contains t.rows row → length row ≡ length xs
  row_fits row there = table_row-length (record { columns = xs; rows = t.rows }) row is_table there

  row_is : (row : List Value) → filled_from_row v t.columns row ≡ with_values xs row v
  row_is row = ap (λ c. filled_from_row v c row) same_columns ∙ filled_is scope xs asked.scoped.0 distinct v fit row

  -- the body can be asked under each row
  pub body_can : (guards : List (Formula × List VarId)) → AtEach (IsAskable guards) body (scope ++ xs) → (row : List Value)
      → Contains t.rows row → CanEvaluatePlan guards body (filled_from_row v t.columns row)
  body_can guards can row there = record {
    scope = scope ++ xs;
    can = can;
    fits = subst (FitsScope (scope ++ xs)) (sym (row_is row))
        (under_row scope xs asked.scoped.0 distinct v fit row (row_fits row there));
  }

  holds_for : evaluation.AreHoldingRows now.events (tables_of g now.tables) (guard_formula g) scope v (record { columns = xs; rows = t.rows })
  holds_for = subst (λ u. evaluation.AreHoldingRows now.events (tables_of g now.tables) (guard_formula g) scope v u) same_table
      (subst (λ b. evaluation.AreHoldingRows now.events (tables_of g now.tables) (guard_formula g) b v t) bound_is (evaluated g found))

  module _ (trace : List Step) (is : IsAt now trace) where
    is_row : (row : List Value) → length row ≡ length xs
        → Contains t.rows row ↔ Sat trace now.position (with_values xs row v) f
    is_row row long =
        let w = with_values xs row v in
        let bound = under_row scope xs asked.scoped.0 distinct v fit row long in
        let on_trace = is.guards n g found w (λ x free. bound.binds x (asked.scoped.1 x (subst (IsFree x) formula_is free))) in
        let by_table = holds_for w (same_on_scope scope xs asked.scoped.0 distinct v fit row long) (row_values scope xs asked.scoped.0 distinct v fit row long) in
        let agrees : AgreesWithRow w xs row = λ x there. value_at-with_inside xs row v x distinct long there in (
          λ there. subst (Sat trace now.position w) formula_is (on_trace.0 (by_table.0 (row, there, agrees))),
          λ holds. let has = by_table.1 (on_trace.1 (subst (Sat trace now.position w) (sym formula_is) holds)) in
              subst (Contains t.rows) (agrees_once w xs has.0 row distinct (row_fits has.0 has.1) long has.2 agrees) has.1,
        )

    -- the guarded body holds where it holds under each row
    pub rows_hold : PlanHoldsAt trace v (Guarded node xs n f body) now.position
        ↔ AllByRecursion (λ row. PlanHoldsAt trace (filled_from_row v t.columns row) body now.position) t.rows
    rows_hold = (
      λ holds. AllByRecursion-from_contains (λ row. PlanHoldsAt trace (filled_from_row v t.columns row) body now.position) t.rows
          (λ row there. subst (λ w. PlanHoldsAt trace w body now.position) (sym (row_is row))
          (holds row (row_fits row there) ((is_row row (row_fits row there)).0 there))),
      λ all row long guard. subst (λ w. PlanHoldsAt trace w body now.position) (row_is row)
          (AllByRecursion-contains (λ r. PlanHoldsAt trace (filled_from_row v t.columns r) body now.position) t.rows row all
          ((is_row row long).1 guard)),
    )
