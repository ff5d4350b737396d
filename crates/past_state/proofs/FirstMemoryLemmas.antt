-- What is kept before the first step.
use Rattle.past_state.proofs.Vocabulary.{◌≡◌, ◌∙◌, ◌⊎◌, inl, inr, ⊎_elim, ℕ, suc, ◌+◌, ◌<◌, ◌≤◌, List, [], ◌∷◌, ◌++◌, length, reverse, get_or, All, Contains, None, refl, sym, ap, subst, arith}
use Rattle.past_state.proofs.Vocabulary.{append_assoc, append-nil, length-append, Decides, Bool, not, false≢true, pointwise, IsStrictlySortedBy, Decides-eqb, Decides-like, slice_eq-Decides}
use Rattle.past_state.proofs.Vocabulary.{length-reverse, reverse-append, All-contains, All-head, All-tail, Contains-append_right, Contains-get_or, sorted_tail, HasNoRepeats, variable_cmp, Interval}
use Rattle.past_state.proofs.Vocabulary.{VarId, all_front, Formula, True, False, Atom, Equal, Less, AtMost, Not, And, Or, Implies, Exists, Forall, Prev, Next, Once, Historically, Since, Eventually}
use Rattle.past_state.proofs.Vocabulary.{Always, Until, IsFree, AreFreeVariables, tree_of, BoundFormula, outermost, BindsFresh, denial, none_in_nil, Slot, LastHasColumns, Window, CanKeep, IsAlone}
use Rattle.past_state.proofs.Vocabulary.{PushesFor, GuardAsks, AsksLeft, IsFor, operators, inner, AreFor, Left, Memory, OperatorState}
use Rattle.std.specs.Prelude.{true, false, IsTrue, ◌↔◌, IfSome, Option, Some}
use Rattle.past_state.proofs.ColumnLemmas.{after}
use Rattle.past_state.specs.declared.prev_operands.Operand.{Operand}
use Rattle.past_state.specs.machine.Newcomers.{AsksInstead, AsksOperand, AsksRight, BeginsWith, GrowsBy}
use Rattle.enf_data.specs.contracts.terms.VarIdPartialEq.TheImpl as variables
use Rattle.past_state.specs.declared.left_sides.Left.TheVariants as side
use Rattle.past_state.specs.declared.memories.Memory.TheVariants as memories

pub distinct : (xs : List VarId) → IsStrictlySortedBy variable_cmp xs → HasNoRepeats xs
distinct [] sorted = tt
distinct (x ∷ xs) sorted = (λ there. let less : x.0 < x.0 = after x xs sorted x there in omega arith, distinct xs (sorted_tail variable_cmp x xs sorted))

pub asks : (f : Formula) (bound : List VarId) (guard : BoundFormula) (given : Formula) → tree_of guard.formula ≡ given → given ≡ f → guard.bound ≡ bound
    → BindsFresh f (λ x. Contains bound x ⊎ IsFree x f) → GuardAsks f bound guard
asks f bound guard given is same bound_is fresh = record { formula_is = is ∙ same; bound_is = bound_is; fresh = fresh }

-- ---- equal columns

derived_variable_eq-Decides : (x y : VarId) → Decides (variables.eq-value.it x y) (x ≡ y)
derived_variable_eq-Decides x y = Decides-like (variables.eq-value.it x y) (λ same i. record { 0 = same i }) (λ same. ap (λ z. z.0) same) (Decides-eqb x.0 y.0)

not_apart : (b : Bool) → not b ≡ false → IsTrue b
not_apart true is = refl
not_apart false is = absurd (false≢true (sym is))

pub columns_same : (xs ys : List VarId) → not (pointwise variables.eq-value.it xs ys) ≡ false → xs ≡ ys
columns_same xs ys is = (slice_eq-Decides derived_variable_eq-Decides xs ys _ refl).0 (not_apart _ is)

-- ---- fewer variables in scope

pub fresh_fewer : (f : Formula) (S R : VarId → Type 0) → ((x : VarId) → R x → S x) → BindsFresh f S → BindsFresh f R
fresh_fewer (True place) S R fewer fresh = tt
fresh_fewer (False place) S R fewer fresh = tt
fresh_fewer (Atom place name terms) S R fewer fresh = tt
fresh_fewer (Equal place s t) S R fewer fresh = tt
fresh_fewer (Less place s t) S R fewer fresh = tt
fresh_fewer (AtMost place s t) S R fewer fresh = tt
fresh_fewer (Not place g) S R fewer fresh = fresh_fewer g S R fewer fresh
fresh_fewer (And place g h) S R fewer fresh = (fresh_fewer g S R fewer fresh.0, fresh_fewer h S R fewer fresh.1)
fresh_fewer (Or place g h) S R fewer fresh = (fresh_fewer g S R fewer fresh.0, fresh_fewer h S R fewer fresh.1)
fresh_fewer (Implies place g h) S R fewer fresh = (fresh_fewer g S R fewer fresh.0, fresh_fewer h S R fewer fresh.1)
fresh_fewer (Exists place xs g) S R fewer fresh = (
  λ x there in_scope. fresh.0 x there (fewer x in_scope),
  fresh_fewer g (λ x. S x ⊎ Contains xs x) (λ x. R x ⊎ Contains xs x)
      (λ x either. ⊎_elim (λ r. inl (fewer x r)) (λ c. inr c) either) fresh.1,
)
fresh_fewer (Forall place xs g) S R fewer fresh = (
  λ x there in_scope. fresh.0 x there (fewer x in_scope),
  fresh_fewer g (λ x. S x ⊎ Contains xs x) (λ x. R x ⊎ Contains xs x)
      (λ x either. ⊎_elim (λ r. inl (fewer x r)) (λ c. inr c) either) fresh.1,
)
fresh_fewer (Prev place interval g) S R fewer fresh = fresh_fewer g S R fewer fresh
fresh_fewer (Next place interval g) S R fewer fresh = fresh_fewer g S R fewer fresh
fresh_fewer (Once place interval g) S R fewer fresh = fresh_fewer g S R fewer fresh
fresh_fewer (Historically place interval g) S R fewer fresh = fresh_fewer g S R fewer fresh
fresh_fewer (Since place interval g h) S R fewer fresh = (fresh_fewer g S R fewer fresh.0, fresh_fewer h S R fewer fresh.1)
fresh_fewer (Eventually place interval g) S R fewer fresh = fresh_fewer g S R fewer fresh
fresh_fewer (Always place interval g) S R fewer fresh = fresh_fewer g S R fewer fresh
fresh_fewer (Until place interval g h) S R fewer fresh = (fresh_fewer g S R fewer fresh.0, fresh_fewer h S R fewer fresh.1)

-- what is denied on the left is asked by itself
pub asks_denied : (f g : Formula) (place : ℕ) (columns : List VarId) (guard : BoundFormula) → f ≡ Not place g → IsAlone g guard → BindsFresh f (λ x. Contains columns x ⊎ IsFree x f)
    → AsksLeft f columns (side.Denied guard)
asks_denied f g place columns guard is alone fresh = (
  place,
  g,
  is,
  asks g [] guard g alone.formula_is refl alone.bound_is (fresh_fewer g (λ x. Contains columns x ⊎ IsFree x f) (λ x. Contains [] x ⊎ IsFree x g)
      (λ x either. ⊎_elim (λ none. absurd (none_in_nil x none)) (λ free. inr (subst (IsFree x) (sym is) free)) either)
      (subst (λ h. BindsFresh h (λ x. Contains columns x ⊎ IsFree x f)) is fresh)),
)

-- what an operator begins with is asked in its place
begun_fresh : (g begun : Formula) → BeginsWith g begun → (S : VarId → Type 0) → BindsFresh g S → BindsFresh begun S
begun_fresh (Once place inner h) begun begins S fresh = subst (λ f. BindsFresh f S) begins.1 fresh
begun_fresh (Since place inner f h) begun begins S fresh = subst (λ k. BindsFresh k S) begins.1 fresh.1
begun_fresh g begun begins S fresh = absurd begins

grown_fresh : (g begun : Formula) → GrowsBy g begun → (S : VarId → Type 0) → BindsFresh g S → BindsFresh begun S
grown_fresh (Once place inner h) begun grows S fresh = subst (λ f. BindsFresh f S) grows.2 fresh
grown_fresh g begun grows S fresh = absurd grows

asks_instead : (Serves : Formula → Type 0) (g begun : Formula) (columns : List VarId) (guard : BoundFormula) → Serves begun → outermost begun ≡ []
    → BindsFresh begun (λ x. Contains [] x ⊎ IsFree x g) → AreFreeVariables g columns → IsAlone begun guard → AreFreeVariables begun columns → AsksInstead Serves g guard
asks_instead Serves g begun columns guard serves present fresh free alone over = record {
  other = begun;
  serves = serves;
  free = same;
  present = present;
  asks = asks begun [] guard begun alone.formula_is refl alone.bound_is (fresh_fewer begun (λ x. Contains [] x ⊎ IsFree x g) (λ x. Contains [] x ⊎ IsFree x begun)
      (λ x either. ⊎_elim (λ none. inl none) (λ is. inr ((same x).0 is)) either) fresh);
}
  where
    same : (x : VarId) → IsFree x begun ↔ IsFree x g
    same x = (λ is. (free.exact x).0 ((over.exact x).1 is), λ is. (over.exact x).0 ((free.exact x).1 is))

pub asks_begun : (g begun : Formula) (columns : List VarId) (guard : BoundFormula) → BeginsWith g begun → outermost begun ≡ [] → BindsFresh g (λ x. Contains [] x ⊎ IsFree x g)
    → AreFreeVariables g columns → IsAlone begun guard → AreFreeVariables begun columns → AsksInstead (BeginsWith g) g guard
asks_begun g begun columns guard begins present fresh free alone over =
    asks_instead (BeginsWith g) g begun columns guard begins present (begun_fresh g begun begins (λ x. Contains [] x ⊎ IsFree x g) fresh) free alone over

pub asks_grown : (g begun : Formula) (columns : List VarId) (guard : BoundFormula) → GrowsBy g begun → outermost begun ≡ [] → BindsFresh g (λ x. Contains [] x ⊎ IsFree x g)
    → AreFreeVariables g columns → IsAlone begun guard → AreFreeVariables begun columns → AsksInstead (GrowsBy g) g guard
asks_grown g begun columns guard grows present fresh free alone over =
    asks_instead (GrowsBy g) g begun columns guard grows present (grown_fresh g begun grows (λ x. Contains [] x ⊎ IsFree x g) fresh) free alone over

pub some_begun : (g begun : Formula) (columns : List VarId) (found : Option BoundFormula) → BeginsWith g begun → BindsFresh g (λ x. Contains [] x ⊎ IsFree x g) → AreFreeVariables g columns
    → IfSome found (IsAlone begun) → IfSome found (λ _. AreFreeVariables begun columns) → IfSome found (λ _. outermost begun ≡ [])
    → IfSome found (AsksInstead (BeginsWith g) g)
some_begun g begun columns None begins fresh free alone over present = tt
some_begun g begun columns (Some guard) begins fresh free alone over present = asks_begun g begun columns guard begins present fresh free alone over

pub some_grown : (g begun : Formula) (columns : List VarId) (found : Option BoundFormula) → GrowsBy g begun → BindsFresh g (λ x. Contains [] x ⊎ IsFree x g) → AreFreeVariables g columns
    → IfSome found (IsAlone begun) → IfSome found (λ _. AreFreeVariables begun columns) → IfSome found (λ _. outermost begun ≡ [])
    → IfSome found (AsksInstead (GrowsBy g) g)
some_grown g begun columns None grows fresh free alone over present = tt
some_grown g begun columns (Some guard) grows fresh free alone over present = asks_grown g begun columns guard grows present fresh free alone over

-- ---- what is kept for one operator

pub for_prev : (place : ℕ) (interval : Interval) (g : Formula) (slot : Slot) (operand : Operand) (columns : List VarId) → slot ≡ record { interval = interval; columns = columns; last = None }
    → AreFreeVariables g columns → AsksOperand g operand → IsFor (Prev place interval g) (memories.Prev slot operand)
for_prev place interval g slot operand columns is free asks =
    (asks, subst (λ s. AreFreeVariables g s.columns) (sym is) free, ap (λ s. s.interval) is, subst (λ s. LastHasColumns s.columns s.last) (sym is) tt)

pub for_once : (place : ℕ) (interval : Interval) (g : Formula) (window : Window) (right : BoundFormula) (columns : List VarId) → window.interval ≡ interval → window.columns ≡ columns
    → AreFreeVariables g columns → AsksRight interval g right → IsFor (Once place interval g) (memories.Once window right)
for_once place interval g window right columns interval_is columns_are free asks = (asks, subst (AreFreeVariables g) (sym columns_are) free, interval_is)

pub for_since : (place : ℕ) (interval : Interval) (g h : Formula) (window : Window) (left : Left) (left_tables : ℕ) (right : BoundFormula) (columns : List VarId)
    → window.interval ≡ interval → window.columns ≡ columns → AreFreeVariables h columns → GuardAsks h [] right → AsksLeft g columns left → left_tables ≡ length (outermost g)
    → ((x : VarId) → IsFree x g → IsFree x h) → IsFor (Since place interval g h) (memories.Since window left left_tables right)
for_since place interval g h window left left_tables right columns interval_is columns_are free asks_right asks_left counted within =
    (asks_right, subst (AreFreeVariables h) (sym columns_are) free, interval_is, subst (λ l. AsksLeft g l left) (sym columns_are) asks_left, counted, within)

pub for_denied : (place : ℕ) (interval : Interval) (g : Formula) (m : Memory) → IsFor (Once place interval (denial g)) m → IsFor (Historically place interval g) m
for_denied place interval g (memories.Once window right) for = for
for_denied place interval g (memories.Prev slot operand) for = absurd for
for_denied place interval g (memories.Since window left left_tables right) for = absurd for

-- ---- operators put last

for_append : (fs gs : List Formula) (os ps : List OperatorState) → AreFor fs os → AreFor gs ps → AreFor (fs ++ gs) (os ++ ps)
for_append [] gs [] ps a b = b
for_append [] gs (o ∷ os) ps a b = absurd a
for_append (f ∷ fs) gs [] ps a b = absurd a
for_append (f ∷ fs) gs (o ∷ os) ps a b = (a.0, a.1, for_append fs gs os ps a.2 b)

pub pushes_none : (before : List OperatorState) → PushesFor [] before before
pushes_none before = record { added = []; grown = sym (append-nil before); are_for = tt }

pub pushes_then : (fs gs : List Formula) (before middle after : List OperatorState) → PushesFor fs before middle → PushesFor gs middle after → PushesFor (fs ++ gs) before after
pushes_then fs gs before middle after first second = record {
  added = first.added ++ second.added;
  grown = second.grown ∙ ap (λ l. l ++ second.added) first.grown ∙ append_assoc before first.added second.added;
  are_for = for_append fs gs first.added second.added first.are_for second.are_for;
}

pub pushes_one : (f : Formula) (m : Memory) (taken : ℕ) (before after : List OperatorState) → IsFor f m → taken ≡ length (inner f) → after
    ≡ before ++ record { taken = taken; memory = m } ∷ [] → PushesFor (f ∷ []) before after
pushes_one f m taken before after for takes grown = record {
  added = record { taken = taken; memory = m } ∷ [];
  grown = grown;
  are_for = (for, takes, tt);
}

-- of a formula whose operators come after those of its operands
pub pushes_up : (f : Formula) (fs : List Formula) (m : Memory) (taken : ℕ) (before middle after : List OperatorState) → PushesFor (reverse fs) before middle → IsFor f m → taken ≡ length (inner f)
    → after ≡ middle ++ record { taken = taken; memory = m } ∷ [] → PushesFor (reverse (f ∷ fs)) before after
pushes_up f fs m taken before middle after inside for takes grown =
    subst (λ l. PushesFor l before after) (sym (reverse-append (f ∷ []) fs)) (pushes_then (reverse fs) (f ∷ []) before middle after inside (pushes_one f m taken middle after for takes grown))

pub pushes_both : (gs hs : List Formula) (before middle after : List OperatorState) → PushesFor (reverse hs) before middle → PushesFor (reverse gs) middle after
    → PushesFor (reverse (gs ++ hs)) before after
pushes_both gs hs before middle after second first = subst (λ l. PushesFor l before after) (sym (reverse-append gs hs)) (pushes_then (reverse hs) (reverse gs) before middle after second first)

-- ---- no more outermost operators than operators, and no more of these than were put

pub outermost_fewer : (f : Formula) → length (outermost f) ≤ length (operators f)
outermost_fewer (True place) = omega arith
outermost_fewer (False place) = omega arith
outermost_fewer (Atom place name terms) = omega arith
outermost_fewer (Equal place s t) = omega arith
outermost_fewer (Less place s t) = omega arith
outermost_fewer (AtMost place s t) = omega arith
outermost_fewer (Not place g) = outermost_fewer g
outermost_fewer (And place g h) = omega (arith, outermost_fewer g, outermost_fewer h, length-append (outermost g) (outermost h), length-append (operators g) (operators h))
outermost_fewer (Or place g h) = omega (arith, outermost_fewer g, outermost_fewer h, length-append (outermost g) (outermost h), length-append (operators g) (operators h))
outermost_fewer (Implies place g h) = omega (arith, outermost_fewer g, outermost_fewer h, length-append (outermost g) (outermost h), length-append (operators g) (operators h))
outermost_fewer (Exists place xs g) = outermost_fewer g
outermost_fewer (Forall place xs g) = outermost_fewer g
outermost_fewer (Prev place interval g) = omega arith
outermost_fewer (Once place interval g) = omega arith
outermost_fewer (Historically place interval g) = omega arith
outermost_fewer (Since place interval g h) = omega arith
outermost_fewer (Next place interval g) = omega arith
outermost_fewer (Eventually place interval g) = omega arith
outermost_fewer (Always place interval g) = omega arith
outermost_fewer (Until place interval g h) = omega arith

for_long : (fs : List Formula) (os : List OperatorState) → AreFor fs os → length os ≡ length fs
for_long [] [] for = refl
for_long [] (o ∷ os) for = absurd for
for_long (f ∷ fs) [] for = absurd for
for_long (f ∷ fs) (o ∷ os) for = ap suc (for_long fs os for.2)

pub pushed_long : (fs : List Formula) (before after : List OperatorState) → PushesFor (reverse fs) before after → length after ≡ length before + length fs
pushed_long fs before after pushes = ap length pushes.grown ∙ length-append before pushes.added ∙ ap (λ n. length before + n) (for_long (reverse fs) pushes.added pushes.are_for ∙ length-reverse fs)

-- ---- what can be kept of the parts of a formula

all_back : {X : Type 0} (P : X → Type 0) (xs ys : List X) → All P (xs ++ ys) → All P ys
all_back P xs ys all k d below = All-contains P (xs ++ ys) (get_or ys k d) all (Contains-append_right xs ys (get_or ys k d) (Contains-get_or ys k d below))

pub keep_left : (g h : Formula) → All CanKeep (operators g ++ operators h) → All CanKeep (operators g)
keep_left g h all = all_front CanKeep (operators g) (operators h) all

pub keep_right : (g h : Formula) → All CanKeep (operators g ++ operators h) → All CanKeep (operators h)
keep_right g h all = all_back CanKeep (operators g) (operators h) all

pub keep_rest : (f : Formula) (fs : List Formula) → All CanKeep (f ∷ fs) → All CanKeep fs
keep_rest f fs all = All-tail CanKeep f fs all

pub keep_first : (f : Formula) (fs : List Formula) → All CanKeep (f ∷ fs) → CanKeep f
keep_first f fs all = All-head CanKeep f fs all

pub both_fewer : (f g : Formula) (before middle after : List OperatorState) (left right : ℕ) → left ≡ length (outermost f) → right ≡ length (outermost g)
    → PushesFor (reverse (operators g)) before middle
    → PushesFor (reverse (operators f)) middle after → left + right ≤ length after
both_fewer f g before middle after left right l r second first =
    omega (arith, l, r, outermost_fewer f, outermost_fewer g, pushed_long (operators g) before middle second, pushed_long (operators f) middle after first)

pub sum_counts : (fs gs : List Formula) (left right : ℕ) → left ≡ length fs → right ≡ length gs → left + right ≡ length (fs ++ gs)
sum_counts fs gs left right l r = omega (arith, l, r, length-append fs gs)
