-- Finite lists of the values that past states keep and that formulas have as constants.
use Rattle.choice_step.proofs.Vocabulary.{◌≡◌, ℕ, List, [], ◌∷◌, ◌++◌, reverse, Contains, sym, subst, ⊎_elim, ◌⊎◌, flat_map, Contains-append_left, Contains-append_right, here, there_from_get, Term}
use Rattle.choice_step.proofs.Vocabulary.{Var, Const, Value, Contains-flat_map, Formula, True, False, Atom, Equal, Less, AtMost, Not, And, Or, Implies, Exists, Forall, Prev, Next, Once, Historically}
use Rattle.choice_step.proofs.Vocabulary.{Since, Eventually, Always, Until, IsFormulaConstant, pairs_of_last, KeptPair, IsConstantOf, IsKeptValue, StoresFor, pair_of, KeptRow, Memory, OperatorState}
use Rattle.past_state.specs.declared.memories.Memory.TheVariants as memories

-- ---- what is kept

abbrev pub values_in : Memory → List Value
values_in (memories.Prev slot operand) = flat_map (λ (p : KeptPair). p.row) (pairs_of_last slot.last)
values_in (memories.Once window right) = flat_map (λ (e : List Value × List ℕ). e.0) window.kept
values_in (memories.Since window left left_tables right) = flat_map (λ (e : List Value × List ℕ). e.0) window.kept

abbrev pub kept_values : List OperatorState → List Value
kept_values operators = flat_map (λ (o : OperatorState). values_in o.memory) (reverse operators)

stored_is_there : (m : Memory) (r : KeptRow) (value : Value) → StoresFor m (pair_of r) → Contains r.row value
    → Contains (values_in m) value
stored_is_there (memories.Prev slot operand) r value stores there =
    Contains-flat_map (λ (p : KeptPair). p.row) (pairs_of_last slot.last) (pair_of r) value stores there
stored_is_there (memories.Once window right) r value (times, kept, at) there =
    Contains-flat_map (λ (e : List Value × List ℕ). e.0) window.kept (r.row, times) value kept there
stored_is_there (memories.Since window left left_tables right) r value (times, kept, at) there =
    Contains-flat_map (λ (e : List Value × List ℕ). e.0) window.kept (r.row, times) value kept there

pub kept_is_there : (operators : List OperatorState) (value : Value) → IsKeptValue operators value
    → Contains (kept_values operators) value
kept_is_there operators value (r, (o, at, stores), there) =
    Contains-flat_map (λ (o : OperatorState). values_in o.memory) (reverse operators) o value
    (there_from_get (reverse operators) r.window o at) (stored_is_there o.memory r value stores there)

-- ---- constants

abbrev pub constant_of : Term → List Value
constant_of (Var x) = []
constant_of (Const value) = value ∷ []

pub constant_is_there : (term : Term) (value : Value) → term ≡ Const value → Contains (constant_of term) value
constant_is_there term value is = subst (λ t. Contains (constant_of t) value) (sym is) (here value [])

abbrev pub constants_in : Formula → List Value
constants_in (True place) = []
constants_in (False place) = []
constants_in (Atom place name terms) = flat_map constant_of terms
constants_in (Equal place s t) = constant_of s ++ constant_of t
constants_in (Less place s t) = constant_of s ++ constant_of t
constants_in (AtMost place s t) = constant_of s ++ constant_of t
constants_in (Not place g) = constants_in g
constants_in (And place g h) = constants_in g ++ constants_in h
constants_in (Or place g h) = constants_in g ++ constants_in h
constants_in (Implies place g h) = constants_in g ++ constants_in h
constants_in (Exists place xs g) = constants_in g
constants_in (Forall place xs g) = constants_in g
constants_in (Prev place interval g) = constants_in g
constants_in (Next place interval g) = constants_in g
constants_in (Once place interval g) = constants_in g
constants_in (Historically place interval g) = constants_in g
constants_in (Since place interval g h) = constants_in g ++ constants_in h
constants_in (Eventually place interval g) = constants_in g
constants_in (Always place interval g) = constants_in g
constants_in (Until place interval g h) = constants_in g ++ constants_in h

in_either : (P Q : Type 0) (xs ys : List Value) (value : Value) → (P → Contains xs value) → (Q → Contains ys value)
    → P ⊎ Q → Contains (xs ++ ys) value
in_either P Q xs ys value left right is =
    ⊎_elim (λ p. Contains-append_left xs ys value (left p)) (λ q. Contains-append_right xs ys value (right q)) is

of_terms : (s t : Term) (value : Value) → (s ≡ Const value) ⊎ (t ≡ Const value)
    → Contains (constant_of s ++ constant_of t) value
of_terms s t value is =
    in_either (s ≡ Const value) (t ≡ Const value) (constant_of s) (constant_of t) value
    (constant_is_there s value) (constant_is_there t value) is

pub in_constants : (f : Formula) (value : Value) → IsFormulaConstant value f → Contains (constants_in f) value
in_constants (True place) value is = absurd is
in_constants (False place) value is = absurd is
in_constants (Atom place name terms) value is =
    Contains-flat_map constant_of terms (Const value) value is (here value [])
in_constants (Equal place s t) value is = of_terms s t value is
in_constants (Less place s t) value is = of_terms s t value is
in_constants (AtMost place s t) value is = of_terms s t value is
in_constants (Not place g) value is = in_constants g value is
in_constants (And place g h) value is =
    in_either (IsFormulaConstant value g) (IsFormulaConstant value h) (constants_in g) (constants_in h) value (in_constants g value) (in_constants h value) is
in_constants (Or place g h) value is =
    in_either (IsFormulaConstant value g) (IsFormulaConstant value h) (constants_in g) (constants_in h) value (in_constants g value) (in_constants h value) is
in_constants (Implies place g h) value is =
    in_either (IsFormulaConstant value g) (IsFormulaConstant value h) (constants_in g) (constants_in h) value (in_constants g value) (in_constants h value) is
in_constants (Exists place xs g) value is = in_constants g value is
in_constants (Forall place xs g) value is = in_constants g value is
in_constants (Prev place interval g) value is = in_constants g value is
in_constants (Next place interval g) value is = in_constants g value is
in_constants (Once place interval g) value is = in_constants g value is
in_constants (Historically place interval g) value is = in_constants g value is
in_constants (Since place interval g h) value is =
    in_either (IsFormulaConstant value g) (IsFormulaConstant value h) (constants_in g) (constants_in h) value (in_constants g value) (in_constants h value) is
in_constants (Eventually place interval g) value is = in_constants g value is
in_constants (Always place interval g) value is = in_constants g value is
in_constants (Until place interval g h) value is =
    in_either (IsFormulaConstant value g) (IsFormulaConstant value h) (constants_in g) (constants_in h) value (in_constants g value) (in_constants h value) is

pub constants_of_each : (fs : List Formula) (value : Value) → IsConstantOf fs value → Contains (flat_map constants_in fs) value
constants_of_each fs value (f, there, is) = Contains-flat_map constants_in fs f value there (in_constants f value is)
