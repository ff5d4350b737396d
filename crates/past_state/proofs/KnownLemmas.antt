-- Where the values in the tables of a step come from.
use Rattle.past_state.proofs.Vocabulary.{◌≡◌, ◌∙◌, ◌⊎◌, inl, inr, ⊎_elim, ℕ, ◌-◌, List, [], ◌∷◌, ◌++◌, length, drop, reverse, get_or, Contains, Some, sym, ap, subst, arith, refl, slice_get}
use Rattle.past_state.proofs.Vocabulary.{All-contains, Contains-append_cases, Contains-get_or, Valuation, Event, VarId, Value, Formula, True, False, Atom, Equal, Less, AtMost, Not, And, Or, Implies}
use Rattle.past_state.proofs.Vocabulary.{Exists, Forall, Prev, Next, Once, Historically, Since, Eventually, Always, Until, tree_of, IsTabled, HasKnownValues, BoundFormula, denial, IsArgument}
use Rattle.past_state.proofs.Vocabulary.{IsFormulaConstant, tabled_behind, later, first_or_later, none_in_nil, Relation, window_given, given_from, given_last_from, Stores, pair, Window, KeptPair}
use Rattle.past_state.proofs.Vocabulary.{IsConstantOf, IsKeptValue, IsKnownOfGuard, TablesAreKnown, AnswersRows, IsFor, AreStepTables, memory_given, operators, all_operators, PastTables}
use Rattle.past_state.proofs.Vocabulary.{formulas_of_guards, guard_formula, AreFor, Runs, StoresFor, kept_row, survives_by, PlacedGuard, Memory, StepTables, OperatorState, Interval}
use Rattle.past_state.proofs.PastLemmas.{OfGuard, all_reverse, at_guard}
use Rattle.past_state.proofs.SavedLemmas.{counted_back}
use Rattle.past_state.specs.machine.Newcomers.{AsksRight, BeginsWith}
use Rattle.past_state.specs.declared.memories.Memory.TheVariants as memories

-- ---- constants

denial_constant : (g : Formula) (value : Value) → IsFormulaConstant value (denial g) → IsFormulaConstant value g
denial_constant (Not place h) value is = is
denial_constant (Implies place a b) value is = is
denial_constant g value is = is

begun_constant : (g begun : Formula) → BeginsWith g begun → (value : Value) → IsFormulaConstant value begun → IsFormulaConstant value g
begun_constant (Once place inner h) begun begins value is = subst (IsFormulaConstant value) (sym begins.1) is
begun_constant (Since place inner f h) begun begins value is = inr (subst (IsFormulaConstant value) (sym begins.1) is)
begun_constant g begun begins value is = absurd begins

-- a constant of an operator in a formula is one of the formula
constant_up : (g f : Formula) → Contains (operators g) f → (value : Value) → IsFormulaConstant value f → IsFormulaConstant value g
constant_up (True place) f there value is = absurd (none_in_nil f there)
constant_up (False place) f there value is = absurd (none_in_nil f there)
constant_up (Atom place name terms) f there value is = absurd (none_in_nil f there)
constant_up (Equal place s t) f there value is = absurd (none_in_nil f there)
constant_up (Less place s t) f there value is = absurd (none_in_nil f there)
constant_up (AtMost place s t) f there value is = absurd (none_in_nil f there)
constant_up (Not place g) f there value is = constant_up g f there value is
constant_up (And place g h) f there value is = ⊎_elim (λ l. inl (constant_up g f l value is)) (λ r. inr (constant_up h f r value is)) (Contains-append_cases (operators g) (operators h) f there)
constant_up (Or place g h) f there value is = ⊎_elim (λ l. inl (constant_up g f l value is)) (λ r. inr (constant_up h f r value is)) (Contains-append_cases (operators g) (operators h) f there)
constant_up (Implies place g h) f there value is = ⊎_elim (λ l. inl (constant_up g f l value is)) (λ r. inr (constant_up h f r value is)) (Contains-append_cases (operators g) (operators h) f there)
constant_up (Exists place xs g) f there value is = constant_up g f there value is
constant_up (Forall place xs g) f there value is = constant_up g f there value is
constant_up (Prev place interval g) f there value is =
    ⊎_elim (λ same. subst (IsFormulaConstant value) (sym same) is) (λ below. constant_up g f below value is) (first_or_later f (Prev place interval g) (operators g) there)
constant_up (Once place interval g) f there value is =
    ⊎_elim (λ same. subst (IsFormulaConstant value) (sym same) is) (λ below. constant_up g f below value is) (first_or_later f (Once place interval g) (operators g) there)
constant_up (Historically place interval g) f there value is =
    ⊎_elim (λ same. subst (IsFormulaConstant value) (sym same) is) (λ below. constant_up g f below value is) (first_or_later f (Historically place interval g) (operators g) there)
constant_up (Since place interval g h) f there value is =
    ⊎_elim (λ same. subst (IsFormulaConstant value) (sym same) is)
    (λ below. ⊎_elim (λ l. inl (constant_up g f l value is)) (λ r. inr (constant_up h f r value is)) (Contains-append_cases (operators g) (operators h) f below))
    (first_or_later f (Since place interval g h) (operators g ++ operators h) there)
constant_up (Next place interval g) f there value is = absurd (none_in_nil f there)
constant_up (Eventually place interval g) f there value is = absurd (none_in_nil f there)
constant_up (Always place interval g) f there value is = absurd (none_in_nil f there)
constant_up (Until place interval g h) f there value is = absurd (none_in_nil f there)

constant_all : (fs : List Formula) (f : Formula) → Contains (all_operators fs) f → (value : Value) → IsFormulaConstant value f → IsConstantOf fs value
constant_all [] f there value is = absurd (none_in_nil f there)
constant_all (g ∷ fs) f there value is =
    ⊎_elim (λ first. (g, (0, omega arith, refl), constant_up g f first value is))
    (λ behind. let found = constant_all fs f behind value is in (found.0, later found.0 g fs found.1, found.2))
    (Contains-append_cases (operators g) (all_operators fs) f there)

-- it is so of each operator in turn, from the last one
constant_turned : (fs : List Formula) (f : Formula) → Contains (reverse (all_operators fs)) f → (value : Value) → IsFormulaConstant value f → IsConstantOf fs value
constant_turned fs f there =
    All-contains (λ g. (value : Value) → IsFormulaConstant value g → IsConstantOf fs value) (reverse (all_operators fs)) f
    (all_reverse (λ g. (value : Value) → IsFormulaConstant value g → IsConstantOf fs value) (all_operators fs)
    (λ k d below. constant_all fs (get_or (all_operators fs) k d) (Contains-get_or (all_operators fs) k d below))) there

-- ---- rows

-- each operator has a number
number_of : (os : List OperatorState) (o : OperatorState) → Contains os o → (n : ℕ) × (slice_get (reverse os) n ≡ Some o)
number_of os o there =
    (length os - 1 - there.0, counted_back os (length os - 1 - there.0) o (omega (arith, there.1)) (sym there.2 ∙ ap (λ k. get_or os k o) (omega (arith, there.1))))

-- so what is kept for it is a row of that number
kept_value : (os : List OperatorState) (o : OperatorState) → Contains os o → (p : KeptPair) → StoresFor o.memory p → (value : Value) → Contains p.row value → IsKeptValue os value
kept_value os o there p stored value inside = let number = number_of os o there in (kept_row number.0 p, (o, number.1, stored), inside)

-- ---- values, of which those of the events are such

module _ (events : List Event) (S : Value → Type 0) (argument : (value : Value) → IsArgument events value → S value) where
  abbrev AllSuch : Relation → Type 0
  AllSuch t = (row : List Value) → Contains t.rows row → (value : Value) → Contains row value → S value

  -- so are the values of what is kept
  abbrev KeptSuch : Memory → Type 0
  KeptSuch m = (p : KeptPair) → StoresFor m p → (value : Value) → Contains p.row value → S value

  right_known : (stack : List Relation) (f : Formula) (guard : BoundFormula) (columns : List VarId) (t : Relation) → tree_of guard.formula ≡ f
      → ((value : Value) → IsTabled stack value → S value) → ((value : Value) → IsFormulaConstant value f → S value)
      → AnswersRows events stack guard columns t → AllSuch t
  right_known stack f guard columns t is tabled constant answers row there value inside =
      ⊎_elim (argument value) (λ either. ⊎_elim (tabled value) (λ c. constant value (subst (IsFormulaConstant value) is c)) either) (answers.known row there value inside)

  asked_known : (stack : List Relation) (interval : Interval) (f : Formula) (guard : BoundFormula) (columns : List VarId) (t : Relation) → AsksRight interval f guard
      → ((value : Value) → IsTabled stack value → S value) → ((value : Value) → IsFormulaConstant value f → S value)
      → AnswersRows events stack guard columns t → AllSuch t
  asked_known stack interval f guard columns t asks tabled constant answers =
      ⊎_elim (λ whole. right_known stack f guard columns t whole.formula_is tabled constant answers)
      (λ new. right_known stack new.1.other guard columns t new.1.asks.formula_is tabled (λ value is. constant value (begun_constant f new.1.other new.1.serves value is)) answers) asks

  window_known : (window : Window) (time : ℕ) (t : StepTables) → AllSuch t.right → ((p : KeptPair) → Stores window p.row p.time → (value : Value) → Contains p.row value → S value)
      → AllSuch (window_given window time (survives_by t.surviving) t.right)
  window_known window time t right keeps row there value inside =
      ⊎_elim (λ now. right row now value inside) (λ before. keeps (pair row before.0) before.1 value inside) (given_from window time (survives_by t.surviving) t.right row there)

  given_known : (f : Formula) (m : Memory) (stack : List Relation) (time : ℕ) (t : StepTables) → IsFor f m → AreStepTables events stack m t → ((value : Value) → IsTabled stack value → S value)
      → ((value : Value) → IsFormulaConstant value f → S value) → KeptSuch m → AllSuch (memory_given m time t)
  given_known (Prev place interval g) (memories.Prev slot operand) stack time t for are tabled constant keeps = λ row there value inside.
      let from = given_last_from slot time row there in
      keeps (pair row from.0) from.1 value inside
  given_known (Once place interval g) (memories.Once window right) stack time t for are tabled constant keeps =
      window_known window time t (asked_known stack interval g right window.columns t.right for.0 tabled constant are.0) keeps
  given_known (Historically place interval g) (memories.Once window right) stack time t for are tabled constant keeps =
      window_known window time t (asked_known stack interval (denial g) right window.columns t.right for.0 tabled (λ value is. constant value (denial_constant g value is)) are.0) keeps
  given_known (Since place interval g h) (memories.Since window left left_tables right) stack time t for are tabled constant keeps =
      window_known window time t
      (right_known (drop left_tables stack) h right window.columns t.right for.0.formula_is (λ value is. tabled value (tabled_behind left_tables stack value is))
      (λ value is. constant value (inr is)) are.0) keeps
  given_known f m stack time t for are tabled constant keeps = absurd for

  known_run : (time : ℕ) (fs : List Formula) (os : List OperatorState) (steps : List StepTables) (stack final : List Relation) → AreFor fs os → Runs events time stack os steps final
      → ((f : Formula) → Contains fs f → (value : Value) → IsFormulaConstant value f → S value)
      → ((o : OperatorState) → Contains os o → KeptSuch o.memory)
      → ((value : Value) → IsTabled stack value → S value) → (value : Value) → IsTabled final value → S value
  known_run time [] [] [] stack final for runs constant keeps tabled = λ value is. tabled value (subst (λ l. IsTabled l value) (sym runs) is)
  known_run time [] [] (t ∷ steps) stack final for runs constant keeps tabled = absurd runs
  known_run time [] (o ∷ os) steps stack final for runs constant keeps tabled = absurd for
  known_run time (f ∷ fs) [] steps stack final for runs constant keeps tabled = absurd for
  known_run time (f ∷ fs) (o ∷ os) [] stack final for runs constant keeps tabled = absurd runs
  known_run time (f ∷ fs) (o ∷ os) (t ∷ steps) stack final for runs constant keeps tabled =
      known_run time fs os steps (memory_given o.memory time t ∷ drop o.taken stack) final for.2 runs.1 (λ g there. constant g (later g f fs there)) (λ p there. keeps p (later p o os there)) on_top
    where
      given_such : AllSuch (memory_given o.memory time t)
      given_such = given_known f o.memory stack time t for.0 runs.0 tabled (constant f (0, omega arith, refl)) (keeps o (0, omega arith, refl))

      on_top : (value : Value) → IsTabled (memory_given o.memory time t ∷ drop o.taken stack) value → S value
      on_top value some =
          ⊎_elim (λ same. given_such some.2.0 (subst (λ s. Contains s.rows some.2.0) (sym same) some.2.1) value some.2.2)
          (λ behind. tabled value (tabled_behind o.taken stack value (some.0, behind, some.2))) (first_or_later some.0 (memory_given o.memory time t) (drop o.taken stack) some.1)

pub are_known : TablesAreKnown
are_known past time events tables is are =
    known_run events (λ value. IsArgument events value ⊎ (IsConstantOf (formulas_of_guards past.guards) value ⊎ IsKeptValue past.operators value)) (λ value of. inl of)
    time (reverse (all_operators (formulas_of_guards past.guards))) past.operators tables.steps [] tables.stack is.kept are.1
    (λ f there value of. inr (inl (constant_turned (formulas_of_guards past.guards) f there value of)))
    (λ o there p stored value inside. inr (inr (kept_value past.operators o there p stored value inside)))
    (λ value none. absurd (none_in_nil none.0 none.1))

-- ---- what a guard gives

pub known_of_guard : (tables : PastTables) (number : ℕ) (g : PlacedGuard) (past : List Relation) (events : List Event) (v : Valuation) (t : Relation) → OfGuard tables number g past
    → HasKnownValues events (past) (guard_formula g) g.guard.bound v t → IsKnownOfGuard tables number events v t
known_of_guard tables number g past events v t asked known = at_guard tables number g past asked (λ l f bound. HasKnownValues events l f bound v t) known
