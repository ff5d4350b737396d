-- What asking a plan takes: guards at their numbers, variables that have values, and rows of tables.
use Rattle.obligations.proofs.Vocabulary.{◌≡◌, ℕ, zero, suc, ◌<◌, List, [], ◌∷◌, ◌++◌, length, map, Contains, None, Some, IsTrue, refl, sym, ap, subst, arith, ⊎_elim, ◌∙◌, ◌↔◌, slice_get, IsSome}
use Rattle.obligations.proofs.Vocabulary.{Contains-append_left, Contains-append_right, same_Some, none-some, AllByRecursion-contains, Contains-append, HasNoRepeats, rising_behind, rising_distinct}
use Rattle.obligations.proofs.Vocabulary.{same_rising, Valuation, value_at, variable_cmp, with_values, BindsColumns, variable_cmp_total, Step, Term, Var, VarId, Value, some_value, Formula, IsFree}
use Rattle.obligations.proofs.Vocabulary.{AreTermsInScope, AreNewVariables, IsTermInScope, new_apart, AreOpen, HoldsNow, AreEvaluated, IsEvaluated, BindsBound, HasOpenColumns, IsGuard, IsTestOf}
use Rattle.obligations.proofs.Vocabulary.{PastTables, guard_formula, tables_of, PlacedGuard, among_or_not, agrees_once, cell_some, table_row-length, value_at-with_inside, value_at-with_outside}
use Rattle.obligations.proofs.Vocabulary.{filled_fresh, filled_from_row, AgreeOnColumns, AgreesWithRow, HasValuation, IsTable, Relation, FitsScope, IsGuardAt, IsNowOf, placed_guard, guards_now}
use Rattle.obligations.proofs.Vocabulary.{AreGuardRows, HoldsLast, Now}
use Rattle.obligations.proofs.Vocabulary.{Bool, true, false, cond, NameId, IgnoresAll, askable, looks_for_any, unaskable}
use Rattle.obligations.proofs.MovedTests.{ignores_all}
use Rattle.monitorable_guard.specs.meaning.Safety.{Safe}

-- ---- a guard at its number

abbrev Listed : List NameId → List PlacedGuard → ℕ → Formula → List VarId → Type 0
Listed stale guards n f scope = (g : PlacedGuard) × (slice_get guards n ≡ Some g) × (n < length guards) × (guard_formula g ≡ f) × (g.guard.bound ≡ scope)
    × IgnoresAll stale (guard_formula g)

-- one that can be evaluated looks for no stale name
first_listed : (stale : List NameId) (g : PlacedGuard) (guards : List PlacedGuard) (f : Formula) (scope : List VarId) (looks : Bool) → Safe f (Contains scope)
    → looks_for_any stale (guard_formula g) ≡ looks → cond looks unaskable (placed_guard g) ≡ (f, scope) → Listed stale (g ∷ guards) 0 f scope
first_listed stale g guards f scope true safe is same = absurd (subst (λ (p : Formula × List VarId). Safe p.0 (Contains scope)) (sym same) safe)
first_listed stale g guards f scope false safe is same = (g, refl, omega arith, ap (λ p. p.0) same, ap (λ p. p.1) same, ignores_all stale (guard_formula g) is)

listed : (stale : List NameId) (guards : List PlacedGuard) (n : ℕ) (f : Formula) (scope : List VarId) → Safe f (Contains scope)
    → slice_get (map (askable stale) guards) n ≡ Some (f, scope) → Listed stale guards n f scope
listed stale [] n f scope safe e = absurd (none-some (f, scope) e)
listed stale (g ∷ guards) zero f scope safe e =
    first_listed stale g guards f scope (looks_for_any stale (guard_formula g)) safe refl (same_Some (askable stale g) (f, scope) e)
listed stale (g ∷ guards) (suc n) f scope safe e =
    let (h, found, within, formula, bound, ignores) = listed stale guards n f scope safe e in (h, found, omega (arith, within), formula, bound, ignores)

module _ (now : Now) (n : ℕ) (f : Formula) (scope : List VarId) (at : IsGuardAt (guards_now now) n f scope) where
  abbrev tables : PastTables
  tables = now.tables.now

  pub the_guard : Listed now.stale.now tables.guards n f scope
  the_guard = listed now.stale.now tables.guards n f scope at.safe at.listed

  pub within : n < length tables.guards
  within = the_guard.2

  pub is_guard : (g : PlacedGuard) → IsGuard tables.guards n g → (guard_formula g ≡ f) × (g.guard.bound ≡ scope)
  is_guard g found =
      let same : the_guard.0 ≡ g = same_Some the_guard.0 g (sym the_guard.1 ∙ found) in
      (ap guard_formula (sym same) ∙ the_guard.3, ap (λ h. h.guard.bound) (sym same) ∙ the_guard.4)

  pub binds_bound : (v : Valuation) → BindsColumns v scope → BindsBound tables.guards n v
  binds_bound v binds g found = subst (BindsColumns v) (sym (is_guard g found).1) binds

  pub is_test : ((x : VarId) → IsFree x f → Contains scope x) → IsTestOf tables.guards n
  is_test free g found x of =
      subst (λ xs. Contains xs x) (sym (is_guard g found).1) (free x (subst (IsFree x) (is_guard g found).0 of))

-- ---- variables that have values

pub leaf_binds : (scope : List VarId) (terms : List Term) (v : Valuation) → AreTermsInScope scope terms → BindsColumns v scope
    → (x : VarId) → Contains terms (Var x) → IsSome (value_at v x)
leaf_binds scope terms v in_scope binds x there =
    binds x (AllByRecursion-contains (IsTermInScope scope) terms (Var x) in_scope there)

pub new_distinct : (scope xs : List VarId) → AreNewVariables scope xs → HasNoRepeats xs
new_distinct scope xs new = rising_distinct variable_cmp_total xs (rising_behind variable_cmp scope xs new)

module _ (scope xs : List VarId) (new : AreNewVariables scope xs) (v : Valuation) (fit : FitsScope scope v) where
  pub fresh_in : (x : VarId) → Contains xs x → value_at v x ≡ None
  fresh_in x there = fit.only x (new_apart scope xs new x there)

  pub filled_is : (row : List Value) → filled_from_row v xs row ≡ with_values xs row v
  filled_is row = filled_fresh v xs row (new_distinct scope xs new) fresh_in

  module _ (row : List Value) (long : length row ≡ length xs) where
    pub same_on_scope : AgreeOnColumns scope v (with_values xs row v)
    same_on_scope x there = sym (value_at-with_outside xs row v x (λ brought. new_apart scope xs new x brought there))

    pub row_values : (x : VarId) → Contains xs x → IsSome (value_at (with_values xs row v) x)
    row_values x there =
        let some = cell_some xs row x long there in
        some_value (value_at (with_values xs row v) x) some.0 (value_at-with_inside xs row v x (new_distinct scope xs new) long there ∙ some.1)

    pub under_row : FitsScope (scope ++ xs) (with_values xs row v)
    under_row = record {
      binds = λ x there. ⊎_elim
          (λ old. subst IsSome (same_on_scope x old) (fit.binds x old))
          (λ brought. row_values x brought)
          (Contains-append scope xs x there);
      only = λ x absent. value_at-with_outside xs row v x (λ brought. absent (Contains-append_right scope xs x brought))
          ∙ fit.only x (λ old. absent (Contains-append_left scope xs x old));
    }

-- ---- the rows of a table

-- for each valuation of the table the guard holds by its tables
abbrev pub HoldFor : Now → ℕ → Valuation → Relation → Type 0
HoldFor now n v t = (g : PlacedGuard) → IsGuard now.tables.now.guards n g → (w : Valuation) → AgreeOnColumns g.guard.bound v w
    → BindsColumns w t.columns → HasValuation t w → HoldsNow now.ordered.now (tables_of g now.tables.now) w (guard_formula g)

pub hold_for : (now : Now) (n : ℕ) (v : Valuation) (t : Relation) → AreEvaluated now.tables.now n now.ordered.now v t → HoldFor now n v t
hold_for now n v t evaluated g found w agree binds has = (evaluated g found w agree binds).0 has

module _ (now : Now) (n : ℕ) (f : Formula) (scope xs : List VarId) (at : IsGuardAt (guards_now now) n f scope)
    (opening : AreOpen f scope xs) (new : AreNewVariables scope xs) (v : Valuation) (fit : FitsScope scope v) (t : Relation)
    (table : IsTable t) (columns : HasOpenColumns now.tables.now n t) where
  abbrev g : PlacedGuard
  g = (the_guard now n f scope at).0

  abbrev found : IsGuard now.tables.now.guards n g
  found = (the_guard now n f scope at).1

  abbrev formula_is : guard_formula g ≡ f
  formula_is = (the_guard now n f scope at).3

  abbrev bound_is : g.guard.bound ≡ scope
  bound_is = (the_guard now n f scope at).4

  opens : AreOpen f scope t.columns
  opens = subst (λ h. AreOpen h scope t.columns) formula_is
      (subst (λ b. AreOpen (guard_formula g) b t.columns) bound_is (columns g found))

  pub same_columns : t.columns ≡ xs
  same_columns = same_rising variable_cmp_total t.columns xs opens.rising opening.rising
      (λ z there. (opening.exact z).1 ((opens.exact z).0 there))
      (λ z there. (opens.exact z).1 ((opening.exact z).0 there))

  pub is_table : IsTable (record { columns = xs; rows = t.rows })
  is_table = subst IsTable (ap (λ c. record { columns = c; rows = t.rows }) same_columns) table

  -- each row of the table is as long as the variables
  pub row_fits : (row : List Value) → Contains t.rows row → length row ≡ length xs
  row_fits row there = table_row-length (record { columns = xs; rows = t.rows }) row is_table there

  module _ (row : List Value) (long : length row ≡ length xs) where
    abbrev w : Valuation
    w = with_values xs row v

    agrees : AgreesWithRow w xs row
    agrees x there = value_at-with_inside xs row v x (new_distinct scope xs new) long there

    pub row_agrees : AgreeOnColumns g.guard.bound v w
    row_agrees = subst (λ b. AgreeOnColumns b v w) (sym bound_is) (same_on_scope scope xs new v fit row long)

    pub row_binds : BindsColumns w t.columns
    row_binds = subst (BindsColumns w) (sym same_columns) (row_values scope xs new v fit row long)

    pub has_row : Contains t.rows row → HasValuation t w
    has_row there = (row, there, subst (λ c. AgreesWithRow w c row) (sym same_columns) agrees)

    pub row_there : HasValuation t w → Contains t.rows row
    row_there has =
        subst (Contains t.rows) (agrees_once w xs has.0 row (new_distinct scope xs new) (row_fits has.0 has.1) long
        (subst (λ c. AgreesWithRow w c has.0) same_columns has.2) agrees) has.1

    free_binds : (x : VarId) → IsFree x f → IsSome (value_at w x)
    free_binds x free =
        ⊎_elim
        (λ old. (under_row scope xs new v fit row long).binds x (Contains-append_left scope xs x old))
        (λ other. row_values scope xs new v fit row long x ((opening.exact x).1 (free, other)))
        (among_or_not scope x)

    -- the guard holds by its tables where it is satisfied
    pub on_trace : (trace : List Step) → IsNowOf now trace
        → HoldsNow now.ordered.now (tables_of g now.tables.now) w (guard_formula g) ↔ HoldsLast trace w f
    on_trace trace is =
        subst (λ h. HoldsNow now.ordered.now (tables_of g now.tables.now) w (guard_formula g) ↔ HoldsLast trace w h) formula_is
        (is.guards n g found (the_guard now n f scope at).5 w (λ x free. free_binds x (subst (IsFree x) formula_is free)))

  -- for each row of the table the guard holds by its tables
  pub row_holds : HoldFor now n v t → (row : List Value) → Contains t.rows row
      → (tables : List Relation) × HoldsNow now.ordered.now tables (with_values xs row v) f
  row_holds sound row there =
      let long = row_fits row there in (
        tables_of g now.tables.now,
        subst (HoldsNow now.ordered.now (tables_of g now.tables.now) (with_values xs row v)) formula_is
            (sound g found (w row long) (row_agrees row long) (row_binds row long) (has_row row long there)),
      )

  pub rows_are : AreEvaluated now.tables.now n now.ordered.now v t → (trace : List Step) → IsNowOf now trace → AreGuardRows trace v xs f t.rows
  rows_are evaluated trace is = record {
    fit = is_table.fits;
    rise = table.rising;
    are = λ row long.
        let by_table = evaluated g found (w row long) (row_agrees row long) (row_binds row long) in (
          λ there. (on_trace row long trace is).0 (by_table.0 (has_row row long there)),
          λ holds. row_there row long (by_table.1 ((on_trace row long trace is).1 holds)),
        );
  }

-- a test holds at the step where it holds by its tables
pub test_is : (now : Now) (trace : List Step) (n : ℕ) (f : Formula) (scope : List VarId)
    → IsGuardAt (guards_now now) n f scope → ((x : VarId) → IsFree x f → Contains scope x) → IsNowOf now trace
    → (v : Valuation) → BindsColumns v scope → (holds : Bool) → IsEvaluated now.tables.now n now.ordered.now v holds
    → IsTrue holds ↔ HoldsLast trace v f
test_is now trace n f scope at free is v binds holds evaluated =
    let (g, found, within, formula, bound, ignores) = the_guard now n f scope at in
    let told = evaluated g found in
    let on_trace = is.guards n g found ignores v (λ x of. binds x (free x (subst (IsFree x) formula of))) in (
      λ is_true. subst (HoldsLast trace v) formula (on_trace.0 (told.0 is_true)),
      λ holds. told.1 (on_trace.1 (subst (HoldsLast trace v) (sym formula) holds)),
    )
