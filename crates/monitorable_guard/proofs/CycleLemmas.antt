-- What the functions of the evaluation hand on to each other.
use Rattle.monitorable_guard.proofs.Vocabulary.{◌≡◌, ℕ, ◌+◌, ◌-◌, ◌^◌, ◌<◌, ◌≤◌, Bool, true, false, not, ◌==◌, Fits, w64, ◌⊎◌, inl, inr, ⊎_elim, List, [], ◌∷◌, ◌++◌, length, get_or, take, drop}
use Rattle.monitorable_guard.proofs.Vocabulary.{Result, Ok, Err, IfOk, IsSome, IsTrue, Contains, ◌↔◌, refl, sym, ap, subst, ◌∙◌, arith, length-append, length-drop, Equal, Formula, Implies, Forall}
use Rattle.monitorable_guard.proofs.Vocabulary.{false≢true, eqb-true, drop-drop, take_more, Contains-append_left, Contains-append_right, Contains-push_cases, IfOk-weaker, Valuation, no_values}
use Rattle.monitorable_guard.proofs.Vocabulary.{value_at, value_of_term, Event, Term, Var, Const, VarId, Value, here, none_in_nil, some_or_none, table_row-length, filled_from_row, Relation}
use Rattle.monitorable_guard.proofs.Vocabulary.{IsTable, AddsRows, IsSolution, AreBoundOrFree, AreOpenUnder, CanAskFormula, RowsFitColumns, HasAnswers, IsGuardAnswer, IsBoundBy}
use Rattle.monitorable_guard.proofs.Vocabulary.{FitOperators, HoldsNow, outermost, tables_beyond, Safe, FreeWithin, Assigns, HasValuation}
use Rattle.monitorable_guard.proofs.AddedTables.{has_added}
use Rattle.monitorable_guard.proofs.PartLemmas.{ask_nested}
use Rattle.monitorable_guard.proofs.EvaluationLemmas.{bound_from, closed_to, closed_from, filled_binds, filled_binds_only, nested_same, not_bound}
use Rattle.monitorable_guard.proofs.RowsLemmas.{adds_as}
use Rattle.monitorable_guard.proofs.AddedTables as added
use Rattle.valuations.specs.machine.Tables as tabled

-- ---- rows made into a table

module _ (events : List Event) (tables : List Relation) (v : Valuation) (f : Formula) where
  pub open_scope : (columns : List VarId) → AreOpenUnder v f columns → AreBoundOrFree columns v f
  open_scope columns opens x there = inr ((opens.exact x).0 there).0

  pub added_fit : (columns : List VarId) (found : List (List Value)) → AddsRows columns [] found (IsGuardAnswer events tables v f columns) → RowsFitColumns columns found
  added_fit columns found adds = added.added_fit columns found (IsGuardAnswer events tables v f columns) adds

  module _ (columns : List VarId) (found : List (List Value)) (adds : AddsRows columns [] found (IsGuardAnswer events tables v f columns)) where
    table_answers : (t : Relation) → t.columns ≡ columns → ((row : List Value) → Contains t.rows row ↔ Contains found row) → HasAnswers events tables v f t
    table_answers t same rows w =
        subst (λ l. HasValuation t w ↔ IsGuardAnswer events tables v f l w) (sym same)
        (has_added columns found (IsGuardAnswer events tables v f columns) adds t same rows w)

    pub ok_answers : {E : Type 0} (r : Result Relation E) → IfOk r (λ t. t.columns ≡ columns) → IfOk r (λ t. (row : List Value) → Contains t.rows row ↔ Contains found row)
        → IfOk r (HasAnswers events tables v f)
    ok_answers (Ok t) same rows = table_answers t same rows
    ok_answers (Err e) same rows = tt

  pub ok_open : {E : Type 0} (columns : List VarId) (r : Result Relation E) → AreOpenUnder v f columns → IfOk r (λ t. t.columns ≡ columns) → IfOk r (λ t. AreOpenUnder v f t.columns)
  ok_open columns (Ok t) opens same = subst (AreOpenUnder v f) (sym same) opens
  ok_open columns (Err e) opens same = tt

  -- whether there is a row over no column
  pub some_answer : (found : List (List Value)) (empty : Bool) → AddsRows [] [] found (IsGuardAnswer events tables v f []) → IsTrue empty ↔ (found ≡ [])
      → IsTrue (not empty) ↔ ((u : Valuation) × IsSolution events tables v f u)
  some_answer [] empty adds told = (
    λ some. absurd (both empty (told.1 refl) some),
    λ answer. absurd (none_in_nil (adds.added no_values (answer.0, answer.1, λ x there. absurd (none_in_nil x there))).0
        (adds.added no_values (answer.0, answer.1, λ x there. absurd (none_in_nil x there))).1),
  )
    where
      both : (b : Bool) → IsTrue b → IsTrue (not b) → ⊥
      both true t n = false≢true n
      both false t n = false≢true t
  some_answer (row ∷ rows) empty adds told = (
    λ some. ⊎_elim (λ none. absurd (none_in_nil none.0 none.1)) (λ answer. (answer.0, answer.1)) (adds.only no_values (row, here row rows, λ x there. absurd (none_in_nil x there))),
    λ answer. by empty told.0,
  )
    where
      by : (b : Bool) → (IsTrue b → row ∷ rows ≡ []) → IsTrue (not b)
      by true wrong = let e : row ∷ rows ≡ [] = wrong refl in absurd (cc)
      by false wrong = refl

-- ---- places among the operators

pub fit_short : (fs : List Formula) (tables : List Relation) → FitOperators fs tables → length fs ≤ length tables
fit_short [] tables fit = omega arith
fit_short (f ∷ fs) [] fit = absurd fit
fit_short (f ∷ fs) (t ∷ tables) fit = omega (arith, fit_short fs tables fit.1)

-- the operators of two formulas are fewer than the tables
pub fit_places : (g h : Formula) (tables : List Relation) (first : ℕ) → length tables < 2 ^ 64 → first < 2 ^ 64 → FitOperators (outermost g ++ outermost h) (drop first tables)
    → (length (outermost g) < 2 ^ 64) × (first + length (outermost g) < 2 ^ 64)
fit_places g h tables first few range fit =
    let short : length (outermost g) ≤ length tables - first = omega (
      arith,
      fit_short (outermost g ++ outermost h) (drop first tables) fit,
      length-append (outermost g) (outermost h),
      length-drop first tables,
    ) in
    (omega arith, omega arith)

pub behind_at : (g : Formula) (tables : List Relation) (first : ℕ) → drop (first + length (outermost g)) tables ≡ tables_beyond g (drop first tables)
behind_at g tables first = sym (drop-drop (length (outermost g)) first tables)

-- ---- of a formula that is no test

module _ (events : List Event) (tables : List Relation) (v : Valuation) (f : Formula) (columns : List VarId) where
  pub closed_scope : FreeWithin f (IsBoundBy v) → AreBoundOrFree columns v f → (x : VarId) → Contains columns x → IsBoundBy v x
  closed_scope closed scope x there = ⊎_elim (λ bound. bound) (closed x) (scope x there)

  -- the row of v, where the formula holds under it
  pub adds_test : (before after : List (List Value)) (test : Bool) → FitOperators (outermost f) tables → FreeWithin f (IsBoundBy v) → AreBoundOrFree columns v f
      → IsTrue test ↔ HoldsNow events tables v f → AddsRows columns before after (λ w. IsTrue test × tabled.AgreeOnColumns columns w v)
      → AddsRows columns before after (IsGuardAnswer events tables v f columns)
  adds_test before after test fit closed scope told adds =
      adds_as columns before after (λ w. IsTrue test × tabled.AgreeOnColumns columns w v) (IsGuardAnswer events tables v f columns)
      (λ w both. closed_to events tables v f columns w closed (told.0 both.0) both.1)
      (λ w answer none. let got = closed_from events tables v f columns w fit closed scope answer in none (told.1 got.0, got.1))
      adds

-- an equality that is safe has a side with a value
pub one_side : (v : Valuation) (p : ℕ) (s t : Term) → Safe (Equal p s t) (IsBoundBy v) → IsSome (value_of_term v s) ⊎ IsSome (value_of_term v t)
one_side v p s t safe = ⊎_elim
    (λ within. inl (term_bound s (λ x is. within x (inl is))))
    (λ opens. ⊎_elim (λ first. inr (assigned s t first)) (λ second. inl (assigned t s second)) opens)
    safe
  where
    term_bound : (t : Term) → ((x : VarId) → t ≡ Var x → IsBoundBy v x) → IsSome (value_of_term v t)
    term_bound (Var x) bound = bound x refl
    term_bound (Const value) bound = refl

    assigned : (s t : Term) → Assigns (IsBoundBy v) s t → IsSome (value_of_term v t)
    assigned (Var x) (Var y) opens = opens.1
    assigned (Var x) (Const value) opens = refl
    assigned (Const value) t opens = absurd opens

-- ---- what is told of an answer

module _ {E : Type 0} (r : Result Bool E) where
  pub ok_decides : (P Q : Type 0) → ((b : Bool) → IsTrue b ↔ P → IsTrue b ↔ Q) → IfOk r (λ b. IsTrue b ↔ P) → IfOk r (λ b. IsTrue b ↔ Q)
  ok_decides P Q to told = by r told
    where
      by : (s : Result Bool E) → IfOk s (λ b. IsTrue b ↔ P) → IfOk s (λ b. IsTrue b ↔ Q)
      by (Ok b) h = to b h
      by (Err e) h = tt

  -- one of two, as the denial of both denials
  pub ok_either : (P Q : Type 0) → IfOk r (λ b. IsTrue b ↔ (P ⊎ Q)) → IfOk r (λ b. IsTrue b ↔ ((P → ⊥) → (Q → ⊥) → ⊥))
  ok_either P Q told = ok_decides (P ⊎ Q) ((P → ⊥) → (Q → ⊥) → ⊥) by told
    where
      by : (b : Bool) → IsTrue b ↔ (P ⊎ Q) → IsTrue b ↔ ((P → ⊥) → (Q → ⊥) → ⊥)
      by true h = (λ t n m. ⊎_elim n m (h.0 t), λ e. refl)
      by false h = (λ t. absurd (false≢true t), λ e. absurd (e (λ p. false≢true (h.1 (inl p))) (λ q. false≢true (h.1 (inr q)))))

  -- at one place and list of variables
  pub ok_forall : (events : List Event) (tables : List Relation) (v : Valuation) (g : Formula) (place : ℕ) (xs : List VarId) → CanAskFormula v tables (Forall place xs g)
      → FreeWithin (Forall place xs g) (IsBoundBy v) → IfOk r (λ b. (p : ℕ) (ys : List VarId) → CanAskFormula v tables (Forall p ys g) → FreeWithin (Forall p ys g) (IsBoundBy v)
      → IsTrue b ↔ HoldsNow events tables v (Forall p ys g)) → IfOk r (λ b. IsTrue b ↔ HoldsNow events tables v (Forall place xs g))
  ok_forall events tables v g place xs ask closed told = by r told
    where
      by : (s : Result Bool E) → IfOk s (λ b. (p : ℕ) (ys : List VarId) → CanAskFormula v tables (Forall p ys g) → FreeWithin (Forall p ys g) (IsBoundBy v)
          → IsTrue b ↔ HoldsNow events tables v (Forall p ys g)) → IfOk s (λ b. IsTrue b ↔ HoldsNow events tables v (Forall place xs g))
      by (Ok b) h = h place xs ask closed
      by (Err e) h = tt

  -- below one more `forall`
  pub ok_nested : (events : List Event) (tables : List Relation) (v : Valuation) (g : Formula) (q : ℕ) (ys : List VarId)
      → IfOk r (λ b. (p : ℕ) (zs : List VarId) → CanAskFormula v tables (Forall p zs g) → FreeWithin (Forall p zs g) (IsBoundBy v)
      → IsTrue b ↔ HoldsNow events tables v (Forall p zs g)) → IfOk r (λ b. (p : ℕ) (xs : List VarId) → CanAskFormula v tables (Forall p xs (Forall q ys g))
      → FreeWithin (Forall p xs (Forall q ys g)) (IsBoundBy v) → IsTrue b ↔ HoldsNow events tables v (Forall p xs (Forall q ys g)))
  ok_nested events tables v g q ys told = by r told
    where
      by : (s : Result Bool E) → IfOk s (λ b. (p : ℕ) (zs : List VarId) → CanAskFormula v tables (Forall p zs g) → FreeWithin (Forall p zs g) (IsBoundBy v)
          → IsTrue b ↔ HoldsNow events tables v (Forall p zs g)) → IfOk s (λ b. (p : ℕ) (xs : List VarId) → CanAskFormula v tables (Forall p xs (Forall q ys g))
          → FreeWithin (Forall p xs (Forall q ys g)) (IsBoundBy v) → IsTrue b ↔ HoldsNow events tables v (Forall p xs (Forall q ys g)))
      by (Ok b) h = λ p xs ask closed.
          let inner = h p (xs ++ ys) (ask_nested v tables p q xs ys g ask) (λ x free. closed x
          ((free.0, λ back. free.1 (Contains-append_right xs ys x back)), λ front. free.1 (Contains-append_left xs ys x front))) in
          let same = nested_same events tables v p xs g ask.tabled p p q ys in
          (λ t. same.0 (inner.0 t), λ holds. inner.1 (same.1 holds))
      by (Err e) h = tt

pub not_decides : (b : Bool) (P : Type 0) → IsTrue b ↔ P → IsTrue (not b) ↔ (P → ⊥)
not_decides true P told = (λ t. absurd (false≢true t), λ n. absurd (n (told.0 refl)))
not_decides false P told = (λ t p. false≢true (told.1 p), λ n. refl)

-- a condition, whose places have no part in it
pub ok_each : {E : Type 0} (r : Result Bool E) (events : List Event) (tables : List Relation) (v : Valuation) (q : ℕ) (g h : Formula)
    → IfOk r (λ b. (p r : ℕ) (xs : List VarId) → CanAskFormula v tables (Forall p xs (Implies r g h)) → IsTrue b ↔ HoldsNow events tables v (Forall p xs (Implies r g h)))
    → IfOk r (λ b. (p : ℕ) (xs : List VarId) → CanAskFormula v tables (Forall p xs (Implies q g h)) → FreeWithin (Forall p xs (Implies q g h)) (IsBoundBy v)
    → IsTrue b ↔ HoldsNow events tables v (Forall p xs (Implies q g h)))
ok_each (Ok b) events tables v q g h told = λ p xs ask closed. told p q xs ask
ok_each (Err e) events tables v q g h told = tt

-- both, where the first was found true; either, where it was found false; the second, where the first was found true
module _ {E : Type 0} (r : Result Bool E) (b : Bool) (P Q : Type 0) (first : IsTrue b ↔ P) where
  pub ok_both : b ≡ true → IfOk r (λ c. IsTrue c ↔ Q) → IfOk r (λ c. IsTrue c ↔ (P × Q))
  ok_both t told = IfOk-weaker r (λ c. IsTrue c ↔ Q) (λ c. IsTrue c ↔ (P × Q)) (λ c second. (λ u. (first.0 t, second.0 u), λ both. second.1 both.1)) told

  pub ok_second : b ≡ false → IfOk r (λ c. IsTrue c ↔ Q) → IfOk r (λ c. IsTrue c ↔ (P ⊎ Q))
  ok_second f told = IfOk-weaker r (λ c. IsTrue c ↔ Q) (λ c. IsTrue c ↔ (P ⊎ Q)) (λ c second.
      (λ u. inr (second.0 u), λ either. ⊎_elim (λ p. absurd (false≢true (sym f ∙ first.1 p))) second.1 either)) told

  pub ok_where : b ≡ true → IfOk r (λ c. IsTrue c ↔ Q) → IfOk r (λ c. IsTrue c ↔ (P → Q))
  ok_where t told = IfOk-weaker r (λ c. IsTrue c ↔ Q) (λ c. IsTrue c ↔ (P → Q)) (λ c second. (λ u p. second.0 u, λ each. second.1 (each (first.0 t)))) told

pub none_equal : {X : Type 0} (xs : List X) (n : ℕ) (b : Bool) → b ≡ (n == 0) → n ≡ length xs → IsTrue b ↔ (xs ≡ [])
none_equal [] n b e long = (λ t. refl, λ same. e ∙ ap (λ m. m == 0) long)
none_equal (x ∷ xs) n b e long = (
  λ t. absurd (omega (arith, eqb-true n 0 (sym e ∙ t), long)),
  λ same. absurd (cc),
)

pub fits_from : {n : ℕ} → n < 2 ^ 64 → Fits w64 n
fits_from small = record { fits = small }

-- the operators of one formula are fewer than the tables
pub fit_place : (g : Formula) (tables : List Relation) (first : ℕ) → length tables < 2 ^ 64 → first < 2 ^ 64 → FitOperators (outermost g) (drop first tables)
    → (length (outermost g) < 2 ^ 64) × (first + length (outermost g) < 2 ^ 64)
fit_place g tables first few range fit =
    let short : length (outermost g) ≤ length tables - first = omega (arith, fit_short (outermost g) (drop first tables) fit, length-drop first tables) in
    (omega arith, omega arith)

pub fit_first : (f : Formula) (tables : List Relation) (first : ℕ) → FitOperators (f ∷ []) (drop first tables) → first < length tables
fit_first f tables first fit = omega (arith, fit_short (f ∷ []) (drop first tables) fit, length-drop first tables)

-- ---- a loop that asks one after another

pub each_more : {X : Type 0} (P : X → Type 0) (xs : List X) (i : ℕ) (x : X) → i < length xs → x ≡ get_or xs i x → ((y : X) → Contains (take i xs) y → P y) → P x
    → (y : X) → Contains (take (i + 1) xs) y → P y
each_more P xs i x within at before here y there =
    ⊎_elim (λ front. before y front) (λ same. subst P (at ∙ same) here)
    (Contains-push_cases (take i xs) (get_or xs i x) y (subst (λ l. Contains l y) (take_more xs i x within) there))

-- ---- where each free variable has a value

pub closed_where_none : (v : Valuation) (f : Formula) (columns : List VarId) → AreOpenUnder v f columns → columns ≡ [] → FreeWithin f (IsBoundBy v)
closed_where_none v f columns opens none x free = ⊎_elim
    (λ some. bound_from v x some.0 some.1)
    (λ absent. absurd (none_in_nil x (subst (λ l. Contains l x) none ((opens.exact x).1 (free, λ bound. not_bound v x absent bound)))))
    (some_or_none (value_at v x))

pub none_where_closed : (v : Valuation) (f : Formula) (columns : List VarId) → AreOpenUnder v f columns → FreeWithin f (IsBoundBy v) → columns ≡ []
none_where_closed v f [] opens within = refl
none_where_closed v f (y ∷ ys) opens within = let got = (opens.exact y).0 (here y ys) in absurd (got.1 (within y got.0))

-- as many values of the columns bind the same variables
pub known_alike : (b : Bool) (f : Formula) (v : Valuation) (columns : List VarId) (row other : List Value) → length row ≡ length columns → length other ≡ length columns
    → IsTrue b ↔ FreeWithin f (IsBoundBy (filled_from_row v columns row)) → IsTrue b ↔ FreeWithin f (IsBoundBy (filled_from_row v columns other))
known_alike b f v columns row other long other_long known = (
  λ t x free. filled_binds v columns other x other_long (filled_binds_only v columns row x (known.0 t x free)),
  λ within. known.1 (λ x free. filled_binds v columns row x long (filled_binds_only v columns other x (within x free))),
)

pub ok_alike : {E : Type 0} (f : Formula) (v : Valuation) (t : Relation) (row : List Value) → IsTable t → Contains t.rows row → (r : Result Bool E)
    → IfOk r (λ b. IsTrue b ↔ FreeWithin f (IsBoundBy (filled_from_row v t.columns row)))
    → IfOk r (λ b. (other : List Value) → Contains t.rows other → IsTrue b ↔ FreeWithin f (IsBoundBy (filled_from_row v t.columns other)))
ok_alike f v t row table there (Ok b) known = λ other too. known_alike b f v t.columns row other (table_row-length t row table there) (table_row-length t other table too) known
ok_alike f v t row table there (Err e) known = tt
