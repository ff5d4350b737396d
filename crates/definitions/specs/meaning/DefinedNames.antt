-- Names that are defined by formulas, and when a formula with such names holds.
use Rattle.count_guard.specs.declared.counting.CountKind.{CountKind}
use Rattle.count_guard.specs.meaning.DifferentLists.{IsCount}
use Rattle.enf_data.specs.declared.events.NameId.{NameId}
use Rattle.enf_data.specs.declared.steps.Step.{Step}
use Rattle.enf_data.specs.declared.terms.VarId.{VarId}
use Rattle.enf_data.specs.declared.values.Value.{Value}
use Rattle.enf_data.specs.meaning.Data.{step_at}
use Rattle.enf_data.specs.meaning.Membership.{IsIn}
use Rattle.enf_data.specs.meaning.Valuations.{Valuation, no_values, value_of_term, values_of_terms, with_values}
use Rattle.enf_formula.specs.meaning.Satisfaction.{Formula, True, False, Atom, Equal, Less, AtMost, Not, And, Or}
use Rattle.enf_formula.specs.meaning.Satisfaction.{Implies, Exists, Forall, Prev, Next, Once, Historically, Since}
use Rattle.enf_formula.specs.meaning.Satisfaction.{Eventually, Always, Until, AreNumbersInOrder, AreSameValues}
use Rattle.enf_formula.specs.meaning.Satisfaction.{Classically, HeldSince, HoldsAnywhere, HoldsUntil, IsEventAmong}
use Rattle.enf_formula.specs.meaning.Satisfaction.{elapsed}
use Rattle.std.specs.Prelude.{ℕ, ◌+◌, ◌-◌, ◌<◌, ◌==◌, ◌≡◌, ◌<ℤ◌, ◌≤ℤ◌, Bool, true, false, List, [], ◌∷◌, length, Option, None, Some}

-- what is counted: so many lists of values for these variables
pub record Counting : Type 0 where
  pub kind : CountKind
  pub k : ℕ
  pub counted : List VarId

-- a definition: its name, its parameters, what it counts, where it counts, and the formula
pub record Definition : Type 0 where
  pub name : NameId
  pub params : List VarId
  pub counts : Option Counting
  pub body : Formula

-- the formula holds on the trace at the position, under the valuation, where this is what atoms mean: satisfaction, with
-- atoms as said
abbrev pub SatWith : (Means : ℕ → NameId → Option (List Value) → Type 0) → List Step → ℕ → Valuation → Formula → Type 0
SatWith Means trace i v (True place) = Unit {0}
SatWith Means trace i v (False place) = ⊥
SatWith Means trace i v (Atom place name terms) = Means i name (values_of_terms v terms)
SatWith Means trace i v (Equal place s t) = AreSameValues (value_of_term v s) (value_of_term v t)
SatWith Means trace i v (Less place s t) = AreNumbersInOrder ◌<ℤ◌ (value_of_term v s) (value_of_term v t)
SatWith Means trace i v (AtMost place s t) = AreNumbersInOrder ◌≤ℤ◌ (value_of_term v s) (value_of_term v t)
SatWith Means trace i v (Not place f) = SatWith Means trace i v f → ⊥
SatWith Means trace i v (And place f g) = SatWith Means trace i v f × SatWith Means trace i v g
SatWith Means trace i v (Or place f g) = (SatWith Means trace i v f → ⊥) → (SatWith Means trace i v g → ⊥) → ⊥
SatWith Means trace i v (Implies place f g) = SatWith Means trace i v f → SatWith Means trace i v g
SatWith Means trace i v (Exists place xs f) =
    Classically ((values : List Value) × (length values ≡ length xs) × SatWith Means trace i (with_values xs values v) f)
SatWith Means trace i v (Forall place xs f) =
    (values : List Value) → length values ≡ length xs → SatWith Means trace i (with_values xs values v) f
SatWith Means trace i v (Prev place interval f) =
    (0 < i) × IsIn interval (elapsed trace (i - 1) i) × SatWith Means trace (i - 1) v f
SatWith Means trace i v (Next place interval f) =
    (i + 1 < length trace) × IsIn interval (elapsed trace i (i + 1)) × SatWith Means trace (i + 1) v f
SatWith Means trace i v (Once place interval f) =
    HeldSince trace i interval HoldsAnywhere (λ j. SatWith Means trace j v f)
SatWith Means trace i v (Historically place interval f) =
    HeldSince trace i interval HoldsAnywhere (λ j. SatWith Means trace j v f → ⊥) → ⊥
SatWith Means trace i v (Since place interval f g) =
    HeldSince trace i interval (λ k. SatWith Means trace k v f) (λ j. SatWith Means trace j v g)
SatWith Means trace i v (Eventually place interval f) =
    HoldsUntil trace i interval HoldsAnywhere (λ j. SatWith Means trace j v f)
SatWith Means trace i v (Always place interval f) =
    HoldsUntil trace i interval HoldsAnywhere (λ j. SatWith Means trace j v f → ⊥) → ⊥
SatWith Means trace i v (Until place interval f g) =
    HoldsUntil trace i interval (λ k. SatWith Means trace k v f) (λ j. SatWith Means trace j v g)

-- what the body of a definition says where the parameters are bound: that the formula holds, or with how many lists of
-- values for the counted variables it does
abbrev pub BodyHolds : (Holds : Valuation → Type 0) → Option Counting → Valuation → Type 0
BodyHolds Holds None v = Holds v
BodyHolds Holds (Some counting) v =
    IsCount counting.kind counting.k (length counting.counted) (λ values. Holds (with_values counting.counted values v))

-- what a definition says of the values of terms, where they have values
abbrev pub DefinitionHolds : (Holds : Valuation → Type 0) → Definition → Option (List Value) → Type 0
DefinitionHolds Holds definition None = ⊥
DefinitionHolds Holds definition (Some values) =
    BodyHolds Holds definition.counts (with_values definition.params values no_values)

-- the one statement, or the other
abbrev pub HoldsIf : Bool → Type 0 → Type 0 → Type 0
HoldsIf true P Q = P
HoldsIf false P Q = Q

-- what an atom means under definitions, of which the last comes first, and each may name those before it: what its
-- definition says of the values, or that the event is there
abbrev pub DefinedMeans : List Definition → List Step → ℕ → NameId → Option (List Value) → Type 0
DefinedMeans [] trace i name args = IsEventAmong (step_at trace i).events name args
DefinedMeans (definition ∷ earlier) trace i name args = HoldsIf (name.0 == definition.name.0)
    (DefinitionHolds (λ v. SatWith (DefinedMeans earlier trace) trace i v definition.body) definition args)
    (DefinedMeans earlier trace i name args)

-- the formula holds on the trace at the position, under the valuation and the definitions
abbrev pub SatDefined : List Definition → List Step → ℕ → Valuation → Formula → Type 0
SatDefined definitions trace i v f = SatWith (DefinedMeans definitions trace) trace i v f
