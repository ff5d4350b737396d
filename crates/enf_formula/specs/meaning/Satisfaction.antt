-- Formulas with their places and free variables, and their satisfaction.
use Rattle.enf_data.specs.declared.events.NameId.{NameId}
use Rattle.enf_data.specs.declared.intervals.Interval.{Interval}
use Rattle.enf_data.specs.declared.terms.Term.{Term}
use Rattle.enf_data.specs.declared.terms.Term.TheVariants.{Var}
use Rattle.enf_data.specs.declared.terms.VarId.{VarId}
use Rattle.enf_data.specs.meaning.Valuations.{variable_cmp, Valuation, with_values, value_of_term, values_of_terms}
use Rattle.std.specs.List.Sorted.{IsStrictlySortedBy}
use Rattle.std.specs.Prelude.{ℕ, List, ◌≡◌, ◌⊎◌, Contains, ◌↔◌, Option, None, Some, ℤ, ◌-◌, ◌<◌, ◌≤◌, length, ◌+◌, ◌<ℤ◌}
use Rattle.std.specs.Prelude.{◌≤ℤ◌}
use Rattle.enf_data.specs.declared.events.Event.{Event}
use Rattle.enf_data.specs.declared.steps.Step.{Step}
use Rattle.enf_data.specs.declared.values.Value.{Value}
use Rattle.enf_data.specs.declared.values.Value.TheVariants.{Num}
use Rattle.enf_data.specs.meaning.Data.{step_at}
use Rattle.enf_data.specs.meaning.Membership.{IsIn}

-- each node begins with the place of its principal token, which has no part in its meaning
pub data Formula : Type 0 where
  True : (place : ℕ) → Formula
  False : (place : ℕ) → Formula
  Atom : (place : ℕ) → NameId → List Term → Formula
  Equal : (place : ℕ) → Term → Term → Formula
  Less : (place : ℕ) → Term → Term → Formula
  AtMost : (place : ℕ) → Term → Term → Formula
  Not : (place : ℕ) → Formula → Formula
  And : (place : ℕ) → Formula → Formula → Formula
  Or : (place : ℕ) → Formula → Formula → Formula
  Implies : (place : ℕ) → Formula → Formula → Formula
  Exists : (place : ℕ) → List VarId → Formula → Formula
  Forall : (place : ℕ) → List VarId → Formula → Formula
  Prev : (place : ℕ) → Interval → Formula → Formula
  Next : (place : ℕ) → Interval → Formula → Formula
  Once : (place : ℕ) → Interval → Formula → Formula
  Historically : (place : ℕ) → Interval → Formula → Formula
  Since : (place : ℕ) → Interval → Formula → Formula → Formula
  Eventually : (place : ℕ) → Interval → Formula → Formula
  Always : (place : ℕ) → Interval → Formula → Formula
  Until : (place : ℕ) → Interval → Formula → Formula → Formula

-- the variable stands in the formula outside of each quantifier that binds it
abbrev pub IsFree : VarId → Formula → Type 0
IsFree x (Atom place name terms) = Contains terms (Var x)
IsFree x (Equal place s t) = (s ≡ Var x) ⊎ (t ≡ Var x)
IsFree x (Less place s t) = (s ≡ Var x) ⊎ (t ≡ Var x)
IsFree x (AtMost place s t) = (s ≡ Var x) ⊎ (t ≡ Var x)
IsFree x (Not place f) = IsFree x f
IsFree x (And place f g) = IsFree x f ⊎ IsFree x g
IsFree x (Or place f g) = IsFree x f ⊎ IsFree x g
IsFree x (Implies place f g) = IsFree x f ⊎ IsFree x g
IsFree x (Exists place xs f) = IsFree x f × (Contains xs x → ⊥)
IsFree x (Forall place xs f) = IsFree x f × (Contains xs x → ⊥)
IsFree x (Prev place interval f) = IsFree x f
IsFree x (Next place interval f) = IsFree x f
IsFree x (Once place interval f) = IsFree x f
IsFree x (Historically place interval f) = IsFree x f
IsFree x (Since place interval f g) = IsFree x f ⊎ IsFree x g
IsFree x (Eventually place interval f) = IsFree x f
IsFree x (Always place interval f) = IsFree x f
IsFree x (Until place interval f g) = IsFree x f ⊎ IsFree x g
IsFree x f = ⊥

-- these are the free variables of the formula, in rising order, each once
pub record AreFreeVariables (f : Formula) (xs : List VarId) : Type 0 where
  pub rising : IsStrictlySortedBy variable_cmp xs
  pub exact : (x : VarId) → Contains xs x ↔ IsFree x f

-- the place of a formula's principal token
abbrev pub formula_place : Formula → ℕ
formula_place (True place) = place
formula_place (False place) = place
formula_place (Atom place name terms) = place
formula_place (Equal place s t) = place
formula_place (Less place s t) = place
formula_place (AtMost place s t) = place
formula_place (Not place f) = place
formula_place (And place f g) = place
formula_place (Or place f g) = place
formula_place (Implies place f g) = place
formula_place (Exists place xs f) = place
formula_place (Forall place xs f) = place
formula_place (Prev place interval f) = place
formula_place (Next place interval f) = place
formula_place (Once place interval f) = place
formula_place (Historically place interval f) = place
formula_place (Since place interval f g) = place
formula_place (Eventually place interval f) = place
formula_place (Always place interval f) = place
formula_place (Until place interval f g) = place

-- ---- Satisfaction of a formula on a finite trace at a position under a valuation (Basin, Klaedtke, Müller and Zălinescu,
-- JACM 62(2), 2015; reading it over finite traces is this project's choice). Each "some" and each `exists` is
-- classical: it says that its denial is false.

-- the denial of a statement is false
abbrev pub Classically : Type 0 → Type 0
Classically P = (P → ⊥) → ⊥

-- the event with these arguments, where they have values, is among the events
abbrev pub IsEventAmong : List Event → NameId → Option (List Value) → Type 0
IsEventAmong events name None = ⊥
IsEventAmong events name (Some args) = Contains events (record { name = name; args = args })

-- both terms have values, which are the same
abbrev pub AreSameValues : Option Value → Option Value → Type 0
AreSameValues (Some a) (Some b) = a ≡ b
AreSameValues s t = ⊥

-- both terms have values, which are numbers in this order
abbrev pub AreNumbersInOrder : (ℤ → ℤ → Type 0) → Option Value → Option Value → Type 0
AreNumbersInOrder R (Some (Num x)) (Some (Num y)) = R x y
AreNumbersInOrder R s t = ⊥

-- how much later the second position is than the first
abbrev pub elapsed : List Step → ℕ → ℕ → ℕ
elapsed trace from to = (step_at trace to).time - (step_at trace from).time

-- some j at or before i, at a distance in the interval, has G, and each position after j up to i has F
abbrev pub HeldSince : List Step → ℕ → Interval → (ℕ → Type 0) → (ℕ → Type 0) → Type 0
HeldSince trace i interval F G = Classically ((j : ℕ) × (j ≤ i) × IsIn interval (elapsed trace j i) × G j
    × ((k : ℕ) → j < k → k ≤ i → F k))

-- some j at or after i, at a distance in the interval, has G, and each position from i before j has F
abbrev pub HoldsUntil : List Step → ℕ → Interval → (ℕ → Type 0) → (ℕ → Type 0) → Type 0
HoldsUntil trace i interval F G =
    Classically ((j : ℕ) × (i ≤ j) × (j < length trace) × IsIn interval (elapsed trace i j) × G j
    × ((k : ℕ) → i ≤ k → k < j → F k))

-- the places at which `true` holds: all
abbrev pub HoldsAnywhere : ℕ → Type 0
HoldsAnywhere i = Unit {0}

-- the formula holds on the trace at the position, under the valuation
abbrev pub Sat : List Step → ℕ → Valuation → Formula → Type 0
Sat trace i v (True place) = Unit {0}
Sat trace i v (False place) = ⊥
Sat trace i v (Atom place name terms) = IsEventAmong (step_at trace i).events name (values_of_terms v terms)
Sat trace i v (Equal place s t) = AreSameValues (value_of_term v s) (value_of_term v t)
Sat trace i v (Less place s t) = AreNumbersInOrder ◌<ℤ◌ (value_of_term v s) (value_of_term v t)
Sat trace i v (AtMost place s t) = AreNumbersInOrder ◌≤ℤ◌ (value_of_term v s) (value_of_term v t)
Sat trace i v (Not place f) = Sat trace i v f → ⊥
Sat trace i v (And place f g) = Sat trace i v f × Sat trace i v g
Sat trace i v (Or place f g) = (Sat trace i v f → ⊥) → (Sat trace i v g → ⊥) → ⊥
Sat trace i v (Implies place f g) = Sat trace i v f → Sat trace i v g
Sat trace i v (Exists place xs f) =
    Classically ((values : List Value) × (length values ≡ length xs) × Sat trace i (with_values xs values v) f)
Sat trace i v (Forall place xs f) =
    (values : List Value) → length values ≡ length xs → Sat trace i (with_values xs values v) f
Sat trace i v (Prev place interval f) = (0 < i) × IsIn interval (elapsed trace (i - 1) i) × Sat trace (i - 1) v f
Sat trace i v (Next place interval f) =
    (i + 1 < length trace) × IsIn interval (elapsed trace i (i + 1)) × Sat trace (i + 1) v f
Sat trace i v (Once place interval f) = HeldSince trace i interval HoldsAnywhere (λ j. Sat trace j v f)
Sat trace i v (Historically place interval f) = HeldSince trace i interval HoldsAnywhere (λ j. Sat trace j v f → ⊥) → ⊥
Sat trace i v (Since place interval f g) = HeldSince trace i interval (λ k. Sat trace k v f) (λ j. Sat trace j v g)
Sat trace i v (Eventually place interval f) = HoldsUntil trace i interval HoldsAnywhere (λ j. Sat trace j v f)
Sat trace i v (Always place interval f) = HoldsUntil trace i interval HoldsAnywhere (λ j. Sat trace j v f → ⊥) → ⊥
Sat trace i v (Until place interval f g) = HoldsUntil trace i interval (λ k. Sat trace k v f) (λ j. Sat trace j v g)
