-- Finitely many values: those that a safe formula's rows can have, and the rows over them.
use Rattle.monitorable_guard.proofs.Vocabulary.{◌≡◌, ℕ, zero, suc, ◌<◌, ◌≤◌, ◌⊎◌, inl, inr, ⊎_elim, pos, Bool, true, false, cond, List, [], ◌∷◌, ◌++◌, length, map, Some, Contains, refl, sym, ap}
use Rattle.monitorable_guard.proofs.Vocabulary.{subst, ◌∙◌, arith, cases_lt, Contains-append_left, Contains-append_right, same_Some, none-some, AllByRecursion, eq_by_cmp, step_at, Valuation, value_at}
use Rattle.monitorable_guard.proofs.Vocabulary.{with_values, variable_cmp, Event, Step, Term, Var, Const, VarId, Value, Num, Formula, True, False, Atom, Equal, Less, AtMost, Not, And, Or, Implies}
use Rattle.monitorable_guard.proofs.Vocabulary.{Exists, Forall, Prev, Next, Once, Historically, Since, Eventually, Always, Until, here, later, first_or_later, none_in_nil, Contains-map, among_or_not}
use Rattle.monitorable_guard.proofs.Vocabulary.{value_at-bound, value_at-other, value_at-with_outside, same_or_other, IsArgument, IsArgumentUpTo, IsFormulaConstant}
use Rattle.monitorable_guard.proofs.Decided.{Decided}
use Rattle.std.specs.FinMap as finite

-- some list has each value with the property
abbrev pub Listed : (Value → Type 0) → Type 0
Listed P = (values : List Value) × ((value : Value) → P value → Contains values value)

listed_none : (P : Value → Type 0) → ((value : Value) → P value → ⊥) → Listed P
listed_none P none = ([], λ value p. absurd (none value p))

listed_as : (P Q : Value → Type 0) → ((value : Value) → Q value → P value) → Listed P → Listed Q
listed_as P Q from p = (p.0, λ value q. p.1 value (from value q))

listed_either : (P Q : Value → Type 0) → Listed P → Listed Q → Listed (λ value. P value ⊎ Q value)
listed_either P Q p q = (p.0 ++ q.0, λ value either. ⊎_elim (λ a. Contains-append_left p.0 q.0 value (p.1 value a)) (λ b. Contains-append_right p.0 q.0 value (q.1 value b)) either)

-- ---- constants

same_constant : (a value : Value) → Const a ≡ Const value → a ≡ value
same_constant a value e = cc

listed_term : (t : Term) → Listed (λ value. t ≡ Const value)
listed_term (Var x) = ([], λ value (e : Var x ≡ Const value). absurd (cc))
listed_term (Const a) = (a ∷ [], λ value e. (0, omega arith, same_constant a value e))

listed_terms : (terms : List Term) → Listed (λ value. Contains terms (Const value))
listed_terms [] = listed_none (λ value. Contains [] (Const value)) (λ value there. none_in_nil (Const value) there)
listed_terms (t ∷ terms) = listed_as (λ value. (t ≡ Const value) ⊎ Contains terms (Const value)) (λ value. Contains (t ∷ terms) (Const value))
    (λ value there. first_or_later (Const value) t terms there) (listed_either (λ value. t ≡ Const value) (λ value. Contains terms (Const value)) (listed_term t) (listed_terms terms))

listed_two : (s t : Term) → Listed (λ value. (s ≡ Const value) ⊎ (t ≡ Const value))
listed_two s t = listed_either (λ value. s ≡ Const value) (λ value. t ≡ Const value) (listed_term s) (listed_term t)

listed_constants : (f : Formula) → Listed (λ value. IsFormulaConstant value f)
listed_constants (True place) = listed_none (λ value. IsFormulaConstant value (True place)) (λ value is. is)
listed_constants (False place) = listed_none (λ value. IsFormulaConstant value (False place)) (λ value is. is)
listed_constants (Atom place name terms) = listed_terms terms
listed_constants (Equal place s t) = listed_two s t
listed_constants (Less place s t) = listed_two s t
listed_constants (AtMost place s t) = listed_two s t
listed_constants (Not place g) = listed_constants g
listed_constants (And place g h) = listed_either (λ value. IsFormulaConstant value g) (λ value. IsFormulaConstant value h) (listed_constants g) (listed_constants h)
listed_constants (Or place g h) = listed_either (λ value. IsFormulaConstant value g) (λ value. IsFormulaConstant value h) (listed_constants g) (listed_constants h)
listed_constants (Implies place g h) = listed_either (λ value. IsFormulaConstant value g) (λ value. IsFormulaConstant value h) (listed_constants g) (listed_constants h)
listed_constants (Exists place xs g) = listed_constants g
listed_constants (Forall place xs g) = listed_constants g
listed_constants (Prev place interval g) = listed_constants g
listed_constants (Next place interval g) = listed_constants g
listed_constants (Once place interval g) = listed_constants g
listed_constants (Historically place interval g) = listed_constants g
listed_constants (Since place interval g h) = listed_either (λ value. IsFormulaConstant value g) (λ value. IsFormulaConstant value h) (listed_constants g) (listed_constants h)
listed_constants (Eventually place interval g) = listed_constants g
listed_constants (Always place interval g) = listed_constants g
listed_constants (Until place interval g h) = listed_either (λ value. IsFormulaConstant value g) (λ value. IsFormulaConstant value h) (listed_constants g) (listed_constants h)

-- ---- arguments

listed_events : (events : List Event) → Listed (λ value. IsArgument events value)
listed_events [] = listed_none (λ value. IsArgument [] value) (λ value some. none_in_nil some.0 some.1)
listed_events (event ∷ events) = listed_as (λ value. Contains event.args value ⊎ IsArgument events value) (λ value. IsArgument (event ∷ events) value)
    (λ value some. ⊎_elim (λ same. inl (subst (λ (e : Event). Contains e.args value) (sym same) some.2)) (λ behind. inr (some.0, behind, some.2)) (first_or_later some.0 event events some.1))
    (listed_either (λ value. Contains event.args value) (λ value. IsArgument events value) (event.args, λ value there. there) (listed_events events))

listed_arguments : (trace : List Step) (i : ℕ) → Listed (λ value. IsArgumentUpTo trace i value)
listed_arguments trace zero = listed_as (λ value. IsArgument (step_at trace 0).events value) (λ value. IsArgumentUpTo trace 0 value)
    (λ value some. subst (λ j. IsArgument (step_at trace j).events value) (nothing some.0 some.1) some.2) (listed_events (step_at trace 0).events)
  where
    nothing : (j : ℕ) → j ≤ 0 → j ≡ 0
    nothing j le = omega (arith, le)
listed_arguments trace (suc i) = listed_as (λ value. IsArgument (step_at trace (suc i)).events value ⊎ IsArgumentUpTo trace i value) (λ value. IsArgumentUpTo trace (suc i) value)
    (λ value some. ⊎_elim (λ lt. inr (some.0, before some.0 lt, some.2)) (λ le. inl (subst (λ j. IsArgument (step_at trace j).events value) (same some.0 some.1 le) some.2)) (cases_lt some.0 (suc i)))
    (listed_either (λ value. IsArgument (step_at trace (suc i)).events value) (λ value. IsArgumentUpTo trace i value) (listed_events (step_at trace (suc i)).events) (listed_arguments trace i))
  where
    before : (j : ℕ) → j < suc i → j ≤ i
    before j lt = omega (arith, lt)

    same : (j : ℕ) → j ≤ suc i → suc i ≤ j → j ≡ suc i
    same j le ge = omega (arith, le, ge)

-- ---- values of a valuation

abbrev pub IsValueOf : Valuation → Value → Type 0
IsValueOf v value = (x : VarId) × (value_at v x ≡ Some value)

found_in : (entries : List (VarId × Value)) (x : VarId) (value : Value) → finite.find variable_cmp x entries ≡ Some value → Contains (map (λ e. e.1) entries) value
found_in [] x value is = absurd (none-some value is)
found_in (e ∷ entries) x value is = by (eq_by_cmp variable_cmp x e.0) is (found_in entries x value)
  where
    by : (b : Bool) → cond b (Some e.1) (finite.find variable_cmp x entries) ≡ Some value
        → (finite.find variable_cmp x entries ≡ Some value → Contains (map (λ e. e.1) entries) value) → Contains (e.1 ∷ map (λ e. e.1) entries) value
    by true is rest = (0, omega arith, same_Some e.1 value is)
    by false is rest = later value e.1 (map (λ e. e.1) entries) (rest is)

listed_valuation : (v : Valuation) → Listed (IsValueOf v)
listed_valuation v = (map (λ e. e.1) (finite.entries v), λ value some. found_in (finite.entries v) some.0 value (sym (finite.get-entries v some.0) ∙ some.1))

-- ---- all of them, with one that is always there

abbrev pub some_value : Value
some_value = Num (pos 0)

abbrev pub IsListed : List Step → ℕ → Valuation → Formula → Value → Type 0
IsListed trace i v f value = (some_value ≡ value) ⊎ (IsArgumentUpTo trace i value ⊎ (IsFormulaConstant value f ⊎ IsValueOf v value))

pub listed_all : (trace : List Step) (i : ℕ) (v : Valuation) (f : Formula) → Listed (IsListed trace i v f)
listed_all trace i v f =
    listed_either (λ value. some_value ≡ value) _ (some_value ∷ [], λ value same. (0, omega arith, same))
    (listed_either (IsArgumentUpTo trace i) _ (listed_arguments trace i)
    (listed_either (λ value. IsFormulaConstant value f) (IsValueOf v) (listed_constants f) (listed_valuation v)))

-- ---- the rows over a list of values

module _ (values : List Value) where
  -- with each of some values in front of each of some rows
  fronts : (some : List Value) (behind : List (List Value)) → (rows : List (List Value))
      × ((value : Value) (row : List Value) → Contains some value → Contains behind row → Contains rows (value ∷ row))
  fronts [] behind = ([], λ value row there in_behind. absurd (none_in_nil value there))
  fronts (first ∷ some) behind =
      let rest = fronts some behind in (
        map (λ row. first ∷ row) behind ++ rest.0,
        λ value row there in_behind. ⊎_elim
            (λ same. Contains-append_left (map (λ row. first ∷ row) behind) rest.0 (value ∷ row)
            (subst (λ a. Contains (map (λ row. first ∷ row) behind) (a ∷ row)) same (Contains-map (λ row. first ∷ row) behind row in_behind)))
            (λ after. Contains-append_right (map (λ row. first ∷ row) behind) rest.0 (value ∷ row) (rest.1 value row after in_behind))
            (first_or_later value first some there),
      )

  pub rows_over : (xs : List VarId) → (rows : List (List Value)) × ((row : List Value) → length row ≡ length xs → AllByRecursion (Contains values) row → Contains rows row)
  rows_over [] = ([] ∷ [], λ row long each. only row long)
    where
      only : (row : List Value) → length row ≡ 0 → Contains ([] ∷ []) row
      only [] long = here [] []
      only (value ∷ row) long = absurd (omega (arith, long))
  rows_over (x ∷ xs) =
      let behind = rows_over xs in
      let all = fronts values behind.0 in
      (all.0, λ row long each. by behind all row long each)
    where
      by : (behind : (rows : List (List Value)) × ((row : List Value) → length row ≡ length xs → AllByRecursion (Contains values) row → Contains rows row))
          → (all : (rows : List (List Value)) × ((value : Value) (row : List Value) → Contains values value → Contains behind.0 row → Contains rows (value ∷ row)))
          → (row : List Value) → length row ≡ length (x ∷ xs) → AllByRecursion (Contains values) row → Contains all.0 row
      by behind all [] long each = absurd (omega (arith, long))
      by behind all (value ∷ row) long each = all.1 value row each.0 (behind.1 row (omega (arith, long)) each.1)

-- ---- a row with a value of the list in the place of each that is none

module _ (r : Value → Value) where
  pub replaced_at : (xs : List VarId) (row : List Value) (v w : Valuation) (x : VarId) → length row ≡ length xs
      → ((a : Value) → value_at (with_values xs row v) x ≡ Some a → r a ≡ a) → Contains xs x ⊎ (value_at v x ≡ value_at w x) → value_at (with_values xs row v) x
      ≡ value_at (with_values xs (map r row) w) x
  replaced_at [] row v w x long stays either = ⊎_elim (λ there. absurd (none_in_nil x there)) (λ e. e) either
  replaced_at (y ∷ xs) [] v w x long stays either = absurd (omega (arith, long))
  replaced_at (y ∷ xs) (value ∷ row) v w x long stays either =
      replaced_at xs row (finite.insert v y value) (finite.insert w y (r value)) x (omega (arith, long)) stays
      (⊎_elim
      (λ there. inl there)
      (λ absent. inr (⊎_elim
      (λ same. value_at-bound v y x value same ∙ ap Some (sym (stays value (value_at-with_outside xs row (finite.insert v y value) x absent ∙ value_at-bound v y x value same))) ∙ sym
      (value_at-bound w y x (r value) same))
      (λ other. value_at-other v y x value other
      ∙ ⊎_elim (λ there. ⊎_elim (λ same. absurd (other same)) (λ behind. absurd (absent behind)) (first_or_later x y xs there)) (λ e. e) either
      ∙ sym (value_at-other w y x (r value) other))
      (same_or_other y x)))
      (among_or_not xs x))

abbrev pub chosen : {P : Type 0} → Decided P → Value → Value
chosen {P} d a = ⊎_elim (λ yes. a) (λ n. some_value) d

pub chosen_inside : (values : List Value) (a : Value) → Contains values some_value → (d : Decided (Contains values a)) → Contains values (chosen d a)
chosen_inside values a there (inl holds) = holds
chosen_inside values a there (inr fails) = there

pub chosen_stays : (values : List Value) (a : Value) → Contains values a → (d : Decided (Contains values a)) → chosen d a ≡ a
chosen_stays values a there (inl holds) = refl
chosen_stays values a there (inr fails) = absurd (fails there)

pub each_inside : (values : List Value) (r : Value → Value) → ((a : Value) → Contains values (r a)) → (row : List Value) → AllByRecursion (Contains values) (map r row)
each_inside values r each [] = tt
each_inside values r each (a ∷ row) = (each a, each_inside values r each row)
