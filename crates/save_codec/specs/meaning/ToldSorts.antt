-- The sorts of a rule's variables, as far as its plan tells them.
use Rattle.enf_data.specs.declared.events.NameId.{NameId}
use Rattle.enf_data.specs.declared.terms.Term.{Term}
use Rattle.enf_data.specs.declared.terms.Term.TheVariants.{Var}
use Rattle.enf_data.specs.declared.terms.VarId.{VarId}
use Rattle.enf_data.specs.declared.values.Value.{Value}
use Rattle.std.specs.List.{list_any}
use Rattle.std.specs.Prelude.{◌≡◌, ◌⊎◌, List, [], ◌∷◌, slice_get, ℕ, Bool, false, nat_eq, Contains, IsTrue}
use Rattle.enf_formula.specs.meaning.Satisfaction.{Formula, Atom, Less, AtMost, Not, And, Or, Implies, Exists, Forall}
use Rattle.enf_formula.specs.meaning.Satisfaction.{Prev, Next, Once, Historically, Since, Eventually, Always, Until}
use Rattle.signature.specs.declared.entries.NameEntry.{NameEntry}
use Rattle.signature.specs.declared.entries.Sort.{Sort}
use Rattle.signature.specs.meaning.Columns.{entry_columns, value_sort}
use Rattle.plan_terms.specs.meaning.Plans.{nodes}
use Rattle.signature.specs.declared.entries.Sort.TheVariants as sorts
use Rattle.plan_terms.specs.meaning.Plans as plans

-- the variable is a term that is of this sort
abbrev pub TermTells : Term → (column : Sort) → VarId → Sort → Type 0
TermTells term column x sort = (term ≡ Var x) × (column ≡ sort)

-- the variable stands in a column of this sort
abbrev pub TermsTell : List Term → List Sort → VarId → Sort → Type 0
TermsTell (term ∷ terms) (column ∷ entry_columns) x sort =
    TermTells term column x sort ⊎ TermsTell terms entry_columns x sort
TermsTell terms columns x sort = ⊥

abbrev pub AtomTells : List NameEntry → NameId → List Term → VarId → Sort → Type 0
AtomTells entries name terms x sort = TermsTell terms (entry_columns (slice_get entries name.0)) x sort

-- the variable is a side of a comparison of numbers
abbrev pub SidesTell : Term → Term → VarId → Sort → Type 0
SidesTell s t x sort = TermTells s sorts.Int x sort ⊎ TermTells t sorts.Int x sort

-- somewhere in the formula the variable stands in a column of this sort, or in such a comparison
abbrev pub FormulaTells : List NameEntry → Formula → VarId → Sort → Type 0
FormulaTells entries (Atom place name terms) x sort = AtomTells entries name terms x sort
FormulaTells entries (Less place s t) x sort = SidesTell s t x sort
FormulaTells entries (AtMost place s t) x sort = SidesTell s t x sort
FormulaTells entries (Not place g) x sort = FormulaTells entries g x sort
FormulaTells entries (And place g h) x sort = FormulaTells entries g x sort ⊎ FormulaTells entries h x sort
FormulaTells entries (Or place g h) x sort = FormulaTells entries g x sort ⊎ FormulaTells entries h x sort
FormulaTells entries (Implies place g h) x sort = FormulaTells entries g x sort ⊎ FormulaTells entries h x sort
FormulaTells entries (Exists place xs g) x sort = FormulaTells entries g x sort
FormulaTells entries (Forall place xs g) x sort = FormulaTells entries g x sort
FormulaTells entries (Prev place interval g) x sort = FormulaTells entries g x sort
FormulaTells entries (Next place interval g) x sort = FormulaTells entries g x sort
FormulaTells entries (Once place interval g) x sort = FormulaTells entries g x sort
FormulaTells entries (Historically place interval g) x sort = FormulaTells entries g x sort
FormulaTells entries (Since place interval g h) x sort = FormulaTells entries g x sort ⊎ FormulaTells entries h x sort
FormulaTells entries (Eventually place interval g) x sort = FormulaTells entries g x sort
FormulaTells entries (Always place interval g) x sort = FormulaTells entries g x sort
FormulaTells entries (Until place interval g h) x sort = FormulaTells entries g x sort ⊎ FormulaTells entries h x sort
FormulaTells entries f x sort = ⊥

-- somewhere in the literals, guards and tests of the plan the variable stands in a column of this sort, or in a
-- comparison of numbers
abbrev pub PlanTells : List NameEntry → plans.Plan → VarId → Sort → Type 0
PlanTells entries (plans.CausePlan node place name terms) x sort = AtomTells entries name terms x sort
PlanTells entries (plans.SuppressPlan node place name terms) x sort = AtomTells entries name terms x sort
PlanTells entries (plans.Both node left right) x sort = PlanTells entries left x sort ⊎ PlanTells entries right x sort
PlanTells entries (plans.Either node left right) x sort = PlanTells entries left x sort ⊎ PlanTells entries right x sort
PlanTells entries (plans.TestOr node guard test body) x sort =
    FormulaTells entries test x sort ⊎ PlanTells entries body x sort
PlanTells entries (plans.Guarded node xs guard test body) x sort =
    FormulaTells entries test x sort ⊎ PlanTells entries body x sort
PlanTells entries (plans.EventuallyPlan node place low high body) x sort = PlanTells entries body x sort
PlanTells entries (plans.AlwaysPlan node place low high body) x sort = PlanTells entries body x sort
PlanTells entries (plans.UntilPlan node place low high left right) x sort =
    PlanTells entries left x sort ⊎ PlanTells entries right x sort
PlanTells entries (plans.NextPlan node place high body) x sort = PlanTells entries body x sort

-- the guard or test of a node has this number
abbrev pub is_of_guard : ℕ → plans.Plan → Bool
is_of_guard guard (plans.TestOr node number test body) = nat_eq number guard
is_of_guard guard (plans.Guarded node xs number test body) = nat_eq number guard
is_of_guard guard plan = false

-- the plan has the guard with this number
abbrev pub has_guard : ℕ → plans.Plan → Bool
has_guard guard plan = list_any (is_of_guard guard) (nodes plan)

-- a plan that has the guard tells that the variable is of this sort
abbrev pub GuardTells : List NameEntry → List plans.Plan → (guard : ℕ) → VarId → Sort → Type 0
GuardTells entries all guard x sort =
    (plan : plans.Plan) × Contains all plan × IsTrue (has_guard guard plan) × PlanTells entries plan x sort

-- the value has each sort that is told of the variable
abbrev pub FitsTold : (VarId → Sort → Type 0) → VarId → Value → Type 0
FitsTold tells x value = (sort : Sort) → tells x sort → value_sort value ≡ sort

-- one value for each of the variables, of the sorts that are told
abbrev pub FitTold : (VarId → Sort → Type 0) → List VarId → List Value → Type 0
FitTold tells [] [] = Unit {0}
FitTold tells (x ∷ xs) (value ∷ values) = FitsTold tells x value × FitTold tells xs values
FitTold tells xs values = ⊥
