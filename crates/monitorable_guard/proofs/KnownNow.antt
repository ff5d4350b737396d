-- The values under which a safe formula holds at a step come from its events and from the tables.
use Rattle.monitorable_guard.proofs.Vocabulary.{◌≡◌, ℕ, ◌⊎◌, inl, inr, ⊎_elim, List, [], ◌∷◌, length, drop, Some, Result, Ok, Err, IfOk, ◌+◌, Contains, refl, sym, ap, subst, ◌∙◌, arith, length-drop}
use Rattle.monitorable_guard.proofs.Vocabulary.{get_or-drop, same_Some, none-some, HasNoRepeats, Valuation, value_at, value_of_term, values_of_terms, with_values, BindsColumns, valuation_of, Event}
use Rattle.monitorable_guard.proofs.Vocabulary.{Term, Var, Const, VarId, Value, Formula, True, False, Atom, Equal, Less, AtMost, Not, And, Or, Implies, Exists, Forall, Prev, Next, Once, Historically}
use Rattle.monitorable_guard.proofs.Vocabulary.{Since, Eventually, Always, Until, IsFree, Classically, AreSameValues-sym, here, later, first_or_later, none_in_nil, some_or_none, some_or_not}
use Rattle.monitorable_guard.proofs.Vocabulary.{among_or_not, value_at-with_outside, cell_here, cell_later, table_row-length, contains_valuation, agrees_itself, same_value_or_not, same_at_or_not}
use Rattle.monitorable_guard.proofs.Vocabulary.{same_or_other, IsPartOfValuation, Relation, IsTable, row_cell, AreOpenUnder, HasAnswers, FitOperators, HasKnownValues, IsKnownNow, IsTabled, Extends}
use Rattle.monitorable_guard.proofs.Vocabulary.{HoldsNow, FirstHas, outermost, tables_beyond, Safe, BoundOrFreeIn, BindsFresh, IsArgument, IsFormulaConstant, IsBoundValue, HasValuation, IsGuardAnswer}
use Rattle.monitorable_guard.proofs.AgreementLemmas.{fit_front, fit_back}
use Rattle.monitorable_guard.proofs.Decided.{Decided, contains_decided, decided_as, decided_either, stable_from}
use Rattle.monitorable_guard.proofs.EvaluationLemmas.{not_bound}
use Rattle.monitorable_guard.proofs.KnownValues.{From, from_stable, among_arguments, assigned}
use Rattle.monitorable_guard.proofs.SafetyLaws.{below_within, historically_within}
use Rattle.monitorable_guard.specs.machine.Answers.{HasAnswersIn}

-- a table after others is one of all
pub tabled_behind : (n : ℕ) (tables : List Relation) (value : Value) → IsTabled (drop n tables) value → IsTabled tables value
tabled_behind n tables value some = (some.0, among n tables some.0 some.1, some.2)
  where
    among : (n : ℕ) (ts : List Relation) (t : Relation) → Contains (drop n ts) t → Contains ts t
    among n ts t there = (n + there.0, omega (arith, there.1, length-drop n ts), sym (get_or-drop n ts there.0 t) ∙ there.2)

module _ (S : Value → Type 0) (stable : (value : Value) → Classically (S value) → S value) where
  -- a value that the first table has for a column
  first_known : (f : Formula) (tables : List Relation) (v : Valuation) → FitOperators (f ∷ []) tables → ((value : Value) → IsTabled tables value → S value) → FirstHas tables v
      → (x : VarId) → IsFree x f → From S stable v x
  first_known f [] v fit tabled has x free = absurd has
  first_known f (t ∷ tables) v fit tabled has x free = λ value at.
      let column = (fit.0 x).1 free in
      tabled value (t, here t tables, (has.0, has.1, cell_there t.columns has.0 x value (sym (has.2 x column) ∙ at)))
    where
      cell_there : (columns : List VarId) (row : List Value) (x : VarId) (value : Value) → row_cell columns row x ≡ Some value → Contains row value
      cell_there [] row x value e = absurd (none-some value e)
      cell_there (column ∷ columns) [] x value e = absurd (none-some value e)
      cell_there (column ∷ columns) (first ∷ row) x value e = ⊎_elim
          (λ same. (0, omega arith, same_Some first value (sym (cell_here column x columns first row same) ∙ e)))
          (λ other. later value first row (cell_there columns row x value (sym (cell_later column x columns first row other) ∙ e)))
          (same_or_other column x)

  module _ (events : List Event) (argument : (value : Value) → IsArgument events value → S value) where
    pub known_now : (tables : List Relation) (v : Valuation) (f : Formula) (B scope : VarId → Type 0) → Safe f B → BindsFresh f scope → FitOperators (outermost f) tables
        → ((x : VarId) → B x → scope x) → ((x : VarId) → IsFree x f → scope x) → ((value : Value) → IsTabled tables value → S value)
        → ((value : Value) → IsFormulaConstant value f → S value) → ((x : VarId) → B x → From S stable v x) → HoldsNow events tables v f → (x : VarId) → IsFree x f
        → From S stable v x
    known_now tables v (True place) B scope safe fresh fit in_scope free_scope tabled constant bound holds x free = absurd free
    known_now tables v (False place) B scope safe fresh fit in_scope free_scope tabled constant bound holds x free = absurd free
    known_now tables v (Atom place name terms) B scope safe fresh fit in_scope free_scope tabled constant bound holds x free = λ value is. argument value
        (among_arguments S stable v terms events name (values_of_terms v terms) x value refl holds free is)
    known_now tables v (Equal place s t) B scope safe fresh fit in_scope free_scope tabled constant bound holds x free =
        ⊎_elim
        (λ within. bound x (within x free))
        (λ opens. ⊎_elim
        (λ first. assigned S stable B v s t (λ value is. constant value (inr is)) bound first holds x free)
        (λ second. assigned S stable B v t s (λ value is. constant value (inl is)) bound second (AreSameValues-sym (value_of_term v s) (value_of_term v t) holds) x (⊎_elim inr inl free))
        opens)
        safe
    known_now tables v (Less place s t) B scope safe fresh fit in_scope free_scope tabled constant bound holds x free = bound x (safe x free)
    known_now tables v (AtMost place s t) B scope safe fresh fit in_scope free_scope tabled constant bound holds x free = bound x (safe x free)
    known_now tables v (Not place g) B scope safe fresh fit in_scope free_scope tabled constant bound holds x free = bound x (safe.0 x free)
    known_now tables v (And place g h) B scope safe fresh fit in_scope free_scope tabled constant bound holds x free =
        let left = known_now tables v g B scope safe.0 fresh.0 (fit_front (outermost g) (outermost h) tables fit) in_scope (λ y fg. free_scope y (inl fg)) tabled
        (λ value is. constant value (inl is)) bound holds.0 in
        ⊎_elim (left x)
        (λ fh. known_now (tables_beyond g tables) v h (BoundOrFreeIn B g) scope safe.1 fresh.1 (fit_back (outermost g) (outermost h) tables fit)
        (λ y b. ⊎_elim (in_scope y) (λ fg. free_scope y (inl fg)) b) (λ y f. free_scope y (inr f))
        (λ value at. tabled value (tabled_behind (length (outermost g)) tables value at)) (λ value is. constant value (inr is)) (λ y b. ⊎_elim (bound y) (left y) b) holds.1 x fh)
        free
    known_now tables v (Or place g h) B scope safe fresh fit in_scope free_scope tabled constant bound holds x free = from_stable S stable v x (λ lacks.
        let alike = safe.2 x (λ b. lacks (bound x b)) in
        holds
        (λ left. lacks (known_now tables v g B scope safe.0 fresh.0 (fit_front (outermost g) (outermost h) tables fit) in_scope (λ y fg. free_scope y (inl fg)) tabled
        (λ value is. constant value (inl is)) bound left x (⊎_elim (λ fg. fg) alike.1 free)))
        (λ right. lacks (known_now (tables_beyond g tables) v h B scope safe.1 fresh.1 (fit_back (outermost g) (outermost h) tables fit) in_scope (λ y fh. free_scope y (inr fh))
        (λ value at. tabled value (tabled_behind (length (outermost g)) tables value at)) (λ value is. constant value (inr is)) bound right x (⊎_elim alike.0 (λ fh. fh) free))))
    known_now tables v (Implies place g h) B scope safe fresh fit in_scope free_scope tabled constant bound holds x free = bound x (⊎_elim (safe.0 x) (safe.1 x) free)
    known_now tables v (Exists place xs g) B scope safe fresh fit in_scope free_scope tabled constant bound holds x free = from_stable S stable v x (λ lacks. holds (λ some. lacks (λ value is.
        known_now tables (with_values xs some.0 v) g B (λ y. scope y ⊎ Contains xs y) safe fresh.1 fit (λ y b. inl (in_scope y b))
        (λ y fg. ⊎_elim inr (λ absent. inl (free_scope y (fg, absent))) (among_or_not xs y)) tabled constant
        (λ y b other at. bound y b other (sym (value_at-with_outside xs some.0 v y (λ there. fresh.0 y there (in_scope y b))) ∙ at))
        some.2 x free.0 value (value_at-with_outside xs some.0 v x free.1 ∙ is))))
    known_now tables v (Forall place xs g) B scope safe fresh fit in_scope free_scope tabled constant bound holds x free = bound x (below_within xs g B safe x free.0 free.1)
    known_now tables v (Prev place interval g) B scope safe fresh fit in_scope free_scope tabled constant bound holds x free = first_known (Prev place interval g) tables v fit tabled holds x free
    known_now tables v (Once place interval g) B scope safe fresh fit in_scope free_scope tabled constant bound holds x free = first_known (Once place interval g) tables v fit tabled holds x free
    known_now tables v (Historically place interval g) B scope safe fresh fit in_scope free_scope tabled constant bound holds x free = bound x (historically_within place interval g B safe x free)
    known_now tables v (Since place interval g h) B scope safe fresh fit in_scope free_scope tabled constant bound holds x free = first_known (Since place interval g h) tables v fit tabled
        holds x free
    known_now tables v (Next place interval g) B scope safe fresh fit in_scope free_scope tabled constant bound holds x free = absurd safe
    known_now tables v (Eventually place interval g) B scope safe fresh fit in_scope free_scope tabled constant bound holds x free = absurd safe
    known_now tables v (Always place interval g) B scope safe fresh fit in_scope free_scope tabled constant bound holds x free = absurd safe
    known_now tables v (Until place interval g h) B scope safe fresh fit in_scope free_scope tabled constant bound holds x free = absurd safe

-- ---- whether a value is known is decided

term_decided : (t : Term) (value : Value) → Decided (t ≡ Const value)
term_decided (Var x) value = inr (λ (e : Var x ≡ Const value). absurd (cc))
term_decided (Const a) value = ⊎_elim (λ e. inl (ap Const e)) (λ n. inr (λ (e : Const a ≡ Const value). n (cc))) (same_value_or_not a value)

constant_decided : (value : Value) (f : Formula) → Decided (IsFormulaConstant value f)
constant_decided value (True place) = inr (λ is. is)
constant_decided value (False place) = inr (λ is. is)
constant_decided value (Atom place name terms) = decided_as _ (Contains terms (Const value)) (λ some. subst (Contains terms) some.2 some.1) (λ there. (Const value, there, refl))
    (some_or_not (λ t. t ≡ Const value) terms (λ t. term_decided t value))
constant_decided value (Equal place s t) = decided_either (s ≡ Const value) (t ≡ Const value) (term_decided s value) (term_decided t value)
constant_decided value (Less place s t) = decided_either (s ≡ Const value) (t ≡ Const value) (term_decided s value) (term_decided t value)
constant_decided value (AtMost place s t) = decided_either (s ≡ Const value) (t ≡ Const value) (term_decided s value) (term_decided t value)
constant_decided value (Not place g) = constant_decided value g
constant_decided value (And place g h) = decided_either (IsFormulaConstant value g) (IsFormulaConstant value h) (constant_decided value g) (constant_decided value h)
constant_decided value (Or place g h) = decided_either (IsFormulaConstant value g) (IsFormulaConstant value h) (constant_decided value g) (constant_decided value h)
constant_decided value (Implies place g h) = decided_either (IsFormulaConstant value g) (IsFormulaConstant value h) (constant_decided value g) (constant_decided value h)
constant_decided value (Exists place xs g) = constant_decided value g
constant_decided value (Forall place xs g) = constant_decided value g
constant_decided value (Prev place interval g) = constant_decided value g
constant_decided value (Next place interval g) = constant_decided value g
constant_decided value (Once place interval g) = constant_decided value g
constant_decided value (Historically place interval g) = constant_decided value g
constant_decided value (Since place interval g h) = decided_either (IsFormulaConstant value g) (IsFormulaConstant value h) (constant_decided value g) (constant_decided value h)
constant_decided value (Eventually place interval g) = constant_decided value g
constant_decided value (Always place interval g) = constant_decided value g
constant_decided value (Until place interval g h) = decided_either (IsFormulaConstant value g) (IsFormulaConstant value h) (constant_decided value g) (constant_decided value h)

known_decided : (events : List Event) (tables : List Relation) (f : Formula) (bound : List VarId) (v : Valuation) (value : Value) → Decided (IsKnownNow events tables f bound v value)
known_decided events tables f bound v value =
    decided_either (IsArgument events value) _ (some_or_not (λ event. Contains event.args value) events (λ event. contains_decided event.args value))
    (decided_either (IsTabled tables value) _ (some_or_not (λ t. (row : List Value) × Contains t.rows row × Contains row value) tables
    (λ t. some_or_not (λ row. Contains row value) t.rows (λ row. contains_decided row value)))
    (decided_either (IsFormulaConstant value f) (IsBoundValue bound v value) (constant_decided value f)
    (some_or_not (λ x. value_at v x ≡ Some value) bound (λ x. same_at_or_not (value_at v x) (Some value)))))

-- ---- the values of rows

column_of : (columns : List VarId) (row : List Value) (value : Value) → HasNoRepeats columns → length row ≡ length columns → Contains row value → (x : VarId) × Contains columns x
    × (row_cell columns row x ≡ Some value)
column_of [] [] value distinct long there = absurd (none_in_nil value there)
column_of [] (first ∷ row) value distinct long there = absurd (omega (arith, long))
column_of (column ∷ columns) [] value distinct long there = absurd (omega (arith, long))
column_of (column ∷ columns) (first ∷ row) value distinct long there = ⊎_elim
    (λ same. (column, here column columns, cell_here column column columns first row refl ∙ ap Some same))
    (λ tables_beyond.
    let found = column_of columns row value distinct.1 (omega (arith, long)) tables_beyond in
    (found.0, later found.0 column columns found.1, cell_later column found.0 columns first row (λ same. distinct.0 (subst (Contains columns) (sym same) found.1)) ∙ found.2))
    (first_or_later value first row there)

module _ (events : List Event) (tables : List Relation) (f : Formula) (bound : List VarId) (v scope : Valuation) (part : IsPartOfValuation v bound scope) (binds : BindsColumns v bound)
    (safe : Safe f (Contains bound)) (fresh : BindsFresh f (λ x. Contains bound x ⊎ IsFree x f)) (fit : FitOperators (outermost f) tables) where
  -- each valuation of the table answers the formula
  abbrev HasSound : Relation → Type 0
  HasSound t = (w : Valuation) → HasValuation t w → IsGuardAnswer events tables scope f t.columns w

  known_values : (t : Relation) → IsTable t → AreOpenUnder scope f t.columns → HasSound t → HasKnownValues events tables f bound v t
  known_values t table opens sound row there value in_row =
      let long = table_row-length t row table there in
      let column = column_of t.columns row value table.distinct long in_row in
      let found = sound (valuation_of t.columns row) (contains_valuation t row table there) in
      known_now (IsKnownNow events tables f bound v) (λ a. stable_from (IsKnownNow events tables f bound v a) (known_decided events tables f bound v a))
      events (λ a is. inl is) tables found.0 f (Contains bound) (λ x. Contains bound x ⊎ IsFree x f) safe fresh fit (λ x b. inl b) (λ x free. inr free)
      (λ a is. inr (inl is)) (λ a is. inr (inr (inl is)))
      (λ x b a at. inr (inr (inr (x, b, from_scope x b a found.0 found.1.extends at))))
      found.1.holds column.0 ((opens.exact column.0).0 column.1).0 value
      (sym (found.2 column.0 column.1) ∙ agrees_itself t.columns row table.distinct long column.0 column.1 ∙ column.2)
    where
      from_scope : (x : VarId) → Contains bound x → (a : Value) (u : Valuation) → Extends scope u → value_at u x ≡ Some a → value_at v x ≡ Some a
      from_scope x b a u ext at = ⊎_elim
          (λ some. some.1 ∙ sym (ext x some.0 (part.inside x b ∙ some.1)) ∙ at)
          (λ none. absurd (not_bound v x none (binds x b)))
          (some_or_none (value_at v x))

  pub ok_known : {E : Type 0} (r : Result Relation E) → IfOk r IsTable → IfOk r (λ t. AreOpenUnder scope f t.columns) → IfOk r (HasAnswers events tables scope f)
      → IfOk r (HasKnownValues events tables f bound v)
  ok_known (Ok t) table opens answers = known_values t table opens (λ w has. (answers w).0 has)
  ok_known (Err e) table opens answers = tt

  pub ok_known_in : {E : Type 0} (within : Relation) (r : Result Relation E) → IfOk r IsTable → IfOk r (λ t. AreOpenUnder scope f t.columns)
      → IfOk r (HasAnswersIn within events tables scope f) → IfOk r (HasKnownValues events tables f bound v)
  ok_known_in within (Ok t) table opens answers = known_values t table opens (λ w has. ((answers w).0 has).0)
  ok_known_in within (Err e) table opens answers = tt
