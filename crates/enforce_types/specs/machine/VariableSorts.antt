-- Sorts of the variables of a formula, and whether sorts and values fit it.
use Rattle.enf_data.specs.declared.events.Event.{Event}
use Rattle.enf_data.specs.declared.steps.Step.{Step}
use Rattle.enf_data.specs.declared.terms.Term.{Term}
use Rattle.enf_data.specs.declared.terms.Term.TheVariants.{Var, Const}
use Rattle.enf_data.specs.declared.terms.VarId.{VarId}
use Rattle.enf_data.specs.declared.values.Value.{Value}
use Rattle.enf_data.specs.meaning.Data.{step_at}
use Rattle.enf_data.specs.meaning.Valuations.{Valuation, value_at}
use Rattle.std.specs.Prelude.{◌⊎◌, ◌≡◌, Contains, List, [], ◌∷◌, slice_get, ℕ, Some}
use Rattle.enf_formula.specs.meaning.Satisfaction.{Formula, True, False, Atom, Equal, Less, AtMost, Not, And, Or}
use Rattle.enf_formula.specs.meaning.Satisfaction.{Implies, Exists, Forall, Prev, Next, Once, Historically, Since}
use Rattle.enf_formula.specs.meaning.Satisfaction.{Eventually, Always, Until}
use Rattle.signature.specs.declared.entries.NameEntry.{NameEntry}
use Rattle.signature.specs.declared.entries.Sort.{Sort}
use Rattle.signature.specs.declared.entries.Sort.TheVariants.{Int}
use Rattle.signature.specs.machine.Entries.{FitsSignature}
use Rattle.signature.specs.meaning.Columns.{value_sort, entry_columns}
use Rattle.monitorable_guard.specs.machine.Answers.{IsBoundIn}
use Rattle.monitorable_guard.specs.meaning.Safety.{NoneBound}

-- ---- what is found, and when sorts fit a formula

-- a variable is one of the first or of the second
abbrev pub Besides : (N M : VarId → Type 0) → VarId → Type 0
Besides N M x = N x ⊎ M x

-- the term is the variable, and the other side of the equation a constant or a variable that was found before
abbrev pub TakesSort : (N : VarId → Type 0) → Term → (other : Term) → VarId → Type 0
TakesSort N s t x = (s ≡ Var x) × IsBoundIn N t

-- the variables of which the formula finds the sort, where those of N were found before it
abbrev pub InfersSort : (N : VarId → Type 0) → Formula → VarId → Type 0
InfersSort N (True place) x = ⊥
InfersSort N (False place) x = ⊥
InfersSort N (Atom place name terms) x = Contains terms (Var x)
InfersSort N (Equal place s t) x = TakesSort N s t x ⊎ TakesSort N t s x
InfersSort N (Less place s t) x = (s ≡ Var x) ⊎ (t ≡ Var x)
InfersSort N (AtMost place s t) x = (s ≡ Var x) ⊎ (t ≡ Var x)
InfersSort N (Not place g) x = InfersSort N g x
InfersSort N (And place g h) x = InfersSort N g x ⊎ InfersSort (Besides N (InfersSort N g)) h x
InfersSort N (Or place g h) x = InfersSort N g x ⊎ InfersSort (Besides N (InfersSort N g)) h x
InfersSort N (Implies place g h) x = InfersSort N g x ⊎ InfersSort (Besides N (InfersSort N g)) h x
InfersSort N (Exists place xs g) x = InfersSort N g x
InfersSort N (Forall place xs g) x = InfersSort N g x
InfersSort N (Prev place interval g) x = InfersSort N g x
InfersSort N (Next place interval g) x = InfersSort N g x
InfersSort N (Once place interval g) x = InfersSort N g x
InfersSort N (Historically place interval g) x = InfersSort N g x
InfersSort N (Since place interval g h) x = InfersSort N g x ⊎ InfersSort (Besides N (InfersSort N g)) h x
InfersSort N (Eventually place interval g) x = InfersSort N g x
InfersSort N (Always place interval g) x = InfersSort N g x
InfersSort N (Until place interval g h) x = InfersSort N g x ⊎ InfersSort (Besides N (InfersSort N g)) h x

-- the sort of a term, where each variable has one
abbrev pub term_sort : (VarId → Sort) → Term → Sort
term_sort sorts (Var x) = sorts x
term_sort sorts (Const value) = value_sort value

-- there is a term for each column, of the column's sort
abbrev pub FillSorts : (VarId → Sort) → List Term → (entry_columns : List Sort) → Type 0
FillSorts sorts [] [] = Unit {0}
FillSorts sorts [] (column ∷ entry_columns) = ⊥
FillSorts sorts (term ∷ terms) [] = ⊥
FillSorts sorts (term ∷ terms) (column ∷ entry_columns) =
    (term_sort sorts term ≡ column) × FillSorts sorts terms entry_columns

-- both terms are of this sort
abbrev pub AreTermsOfSort : Sort → (VarId → Sort) → (s t : Term) → Type 0
AreTermsOfSort sort sorts s t = (term_sort sorts s ≡ sort) × (term_sort sorts t ≡ sort)

-- the sorts fit the formula, where the variables of N were found before it: terms have the sorts of their columns,
-- comparisons are of numbers, and the sides of an equation are of one sort where one was found before
abbrev pub SortsFit : List NameEntry → (VarId → Sort) → (N : VarId → Type 0) → Formula → Type 0
SortsFit entries sorts N (True place) = Unit {0}
SortsFit entries sorts N (False place) = Unit {0}
SortsFit entries sorts N (Atom place name terms) = FillSorts sorts terms (entry_columns (slice_get entries name.0))
SortsFit entries sorts N (Equal place s t) = IsBoundIn N s ⊎ IsBoundIn N t → term_sort sorts s ≡ term_sort sorts t
SortsFit entries sorts N (Less place s t) = AreTermsOfSort Int sorts s t
SortsFit entries sorts N (AtMost place s t) = AreTermsOfSort Int sorts s t
SortsFit entries sorts N (Not place g) = SortsFit entries sorts N g
SortsFit entries sorts N (And place g h) = SortsFit entries sorts N g
    × SortsFit entries sorts (Besides N (InfersSort N g)) h
SortsFit entries sorts N (Or place g h) = SortsFit entries sorts N g
    × SortsFit entries sorts (Besides N (InfersSort N g)) h
SortsFit entries sorts N (Implies place g h) = SortsFit entries sorts N g
    × SortsFit entries sorts (Besides N (InfersSort N g)) h
SortsFit entries sorts N (Exists place xs g) = SortsFit entries sorts N g
SortsFit entries sorts N (Forall place xs g) = SortsFit entries sorts N g
SortsFit entries sorts N (Prev place interval g) = SortsFit entries sorts N g
SortsFit entries sorts N (Next place interval g) = SortsFit entries sorts N g
SortsFit entries sorts N (Once place interval g) = SortsFit entries sorts N g
SortsFit entries sorts N (Historically place interval g) = SortsFit entries sorts N g
SortsFit entries sorts N (Since place interval g h) = SortsFit entries sorts N g
    × SortsFit entries sorts (Besides N (InfersSort N g)) h
SortsFit entries sorts N (Eventually place interval g) = SortsFit entries sorts N g
SortsFit entries sorts N (Always place interval g) = SortsFit entries sorts N g
SortsFit entries sorts N (Until place interval g h) = SortsFit entries sorts N g
    × SortsFit entries sorts (Besides N (InfersSort N g)) h

-- there are sorts that fit the whole formula
abbrev pub HasVarSorts : List NameEntry → Formula → Type 0
HasVarSorts entries f = (sorts : VarId → Sort) × SortsFit entries sorts NoneBound f

-- ---- values that fit

-- all events of the trace fit the signature
abbrev pub TraceFits : List NameEntry → List Step → Type 0
TraceFits entries trace =
    (i : ℕ) (event : Event) → Contains (step_at trace i).events event → FitsSignature entries event

-- the value of the variable, if it has one, is of its sort
abbrev pub ValueFits : (VarId → Sort) → Valuation → VarId → Type 0
ValueFits sorts v x = (value : Value) → value_at v x ≡ Some value → value_sort value ≡ sorts x
