-- What is found of sorts fits, and plans keep to the sorts of the formulas that they are made of.
use Rattle.enf_data.specs.declared.events.NameId.{NameId}
use Rattle.enf_data.specs.declared.steps.Step.{Step}
use Rattle.enf_data.specs.declared.terms.VarId.{VarId}
use Rattle.enf_data.specs.declared.values.Value.{Value}
use Rattle.enf_data.specs.meaning.Valuations.{Valuation, with_values}
use Rattle.std.specs.List.{AllByRecursion}
use Rattle.std.specs.Prelude.{ℕ, List, Contains, slice_get, [], Bool, Ok, ◌⊎◌}
use Rattle.enf_formula.specs.machine.Variables.{IsClosed}
use Rattle.enf_formula.specs.machine.FormulaShape.{BindsFresh}
use Rattle.enf_formula.specs.meaning.Satisfaction.{Formula, IsFree, Sat}
use Rattle.signature.specs.declared.entries.NameEntry.{NameEntry}
use Rattle.signature.specs.declared.entries.Sort.{Sort}
use Rattle.signature.specs.meaning.Columns.{entry_columns}
use Rattle.monitorable_guard.specs.meaning.Safety.{NoneBound, Safe}
use Rattle.formula_reader.specs.machine.WellFormedPolicies.{IsWellFormedPolicy}
use Rattle.formula_reader.specs.meaning.PolicyAnswers.{IsPolicyAnswer}
use Rattle.formula_reader.specs.meaning.Resolution.{Rule}
use Rattle.plan_terms.specs.meaning.Plans.{Plan, CausePlan, SuppressPlan, Both, Either, TestOr, Guarded, EventuallyPlan}
use Rattle.plan_terms.specs.meaning.Plans.{AlwaysPlan, UntilPlan, NextPlan}
use Rattle.plan_terms.specs.machine.WellFormed.{AtEach}
use Rattle.enforce_types.specs.machine.TypedPolicies.{formulas_of}
use Rattle.enforce_types.specs.machine.VariableSorts.{TraceFits, ValueFits, FillSorts, SortsFit, HasVarSorts, Besides}
use Rattle.enforce_types.specs.machine.VariableSorts.{InfersSort}
use Rattle.enforce_types.specs.meaning.Elab.{ArePlanned, Elab, Up}

-- on a trace that fits, a guard gives its variables values of their sorts, where those in scope have such
abbrev pub GivesSorts : List NameEntry → (VarId → Sort) → (scope xs : List VarId) → (test : Formula) → Type 0
GivesSorts entries sorts scope xs test =
    (trace : List Step) (i : ℕ) (v : Valuation) (row : List Value)
    → TraceFits entries trace
    → ((x : VarId) → Contains scope x → ValueFits sorts v x)
    → Sat trace i (with_values xs row v) test
    → (x : VarId) → Contains xs x → ValueFits sorts (with_values xs row v) x

-- the terms of a leaf have the sorts of its columns; the sorts fit a test; and a guard gives values of them
abbrev pub KeepsSorts : List NameEntry → (VarId → Sort) → Plan → (scope : List VarId) → Type 0
KeepsSorts entries sorts (CausePlan node place name terms) scope =
    FillSorts sorts terms (entry_columns (slice_get entries name.0))
KeepsSorts entries sorts (SuppressPlan node place name terms) scope =
    FillSorts sorts terms (entry_columns (slice_get entries name.0))
KeepsSorts entries sorts (Both node left right) scope = Unit {0}
KeepsSorts entries sorts (Either node left right) scope = Unit {0}
KeepsSorts entries sorts (TestOr node guard test body) scope = SortsFit entries sorts NoneBound test
KeepsSorts entries sorts (Guarded node xs guard test body) scope =
    SortsFit entries sorts NoneBound test × GivesSorts entries sorts scope xs test
KeepsSorts entries sorts (EventuallyPlan node place low high body) scope = Unit {0}
KeepsSorts entries sorts (AlwaysPlan node place low high body) scope = Unit {0}
KeepsSorts entries sorts (UntilPlan node place low high left right) scope = Unit {0}
KeepsSorts entries sorts (NextPlan node place high body) scope = Unit {0}

-- each node of the plan of a rule keeps to the sorts
abbrev pub PlanKeepsSorts : List NameEntry → (VarId → Sort) → Plan → Type 0
PlanKeepsSorts entries sorts plan = AtEach (KeepsSorts entries sorts) plan []

-- the plan of a closed formula that the sorts fit keeps to them
abbrev pub MadeKeepsSorts : Type 0
MadeKeepsSorts = (entries : List NameEntry) (sorts : VarId → Sort) (causable suppressible : NameId → Bool)
    (f : Formula) (plan : Plan) → IsClosed f → BindsFresh f (λ x. ⊥) → SortsFit entries sorts NoneBound f
    → Elab causable suppressible Up f [] (Ok plan) → PlanKeepsSorts entries sorts plan

-- the plans of a policy that was read and is sorted keep to the sorts of their rules
abbrev pub PolicyKeepsSorts : Type 0
PolicyKeepsSorts = (entries : List NameEntry) (rules : List Rule) (plans : List Plan)
    (guards : List (Formula × List VarId)) → IsWellFormedPolicy entries rules
    → AllByRecursion (λ (rule : Rule). HasVarSorts entries rule.formula) rules
    → ArePlanned entries (formulas_of rules) plans guards
    → AllByRecursion (λ plan. (sorts : VarId → Sort) × PlanKeepsSorts entries sorts plan) plans

-- ---- laws

-- the rules of a text are sorted
abbrev pub ReadIsSorted : Type 0
ReadIsSorted = (entries : List NameEntry) (bytes : List ℕ) (rules : List Rule)
    → IsPolicyAnswer entries bytes (Ok rules) → AllByRecursion (λ (rule : Rule). HasVarSorts entries rule.formula)
    rules

-- with the bound variables found before, a safe formula finds its free variables
abbrev pub SafeIsFound : Type 0
SafeIsFound = (f : Formula) (bound found : List VarId) → Safe f (Contains bound)
    → ((x : VarId) → Contains bound x → Contains found x) → (x : VarId) → IsFree x f
    → Besides (Contains found) (InfersSort (Contains found) f) x

-- each value of a free variable under which a safe formula holds on a trace that fits is of the variable's sort, where
-- the bound variables were found before and have values of their sorts
abbrev pub SafeValuesFit : Type 0
SafeValuesFit = (entries : List NameEntry) (sorts : VarId → Sort) (trace : List Step) (i : ℕ) (f : Formula)
    (bound found : List VarId) (v : Valuation)
    → TraceFits entries trace
    → Safe f (Contains bound)
    → BindsFresh f (λ x. Contains bound x ⊎ IsFree x f)
    → ((x : VarId) → Contains bound x → Contains found x)
    → SortsFit entries sorts (Contains found) f
    → ((x : VarId) → Contains bound x → ValueFits sorts v x)
    → Sat trace i v f
    → (x : VarId) → IsFree x f → ValueFits sorts v x
