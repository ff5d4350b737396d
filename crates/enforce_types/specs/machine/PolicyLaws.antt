-- What the plans of a policy are worth, and that each policy has exactly one answer.
use Rattle.enf_data.specs.declared.events.NameId.{NameId}
use Rattle.enf_data.specs.declared.limits.TheConstants.{MOST_NAMES}
use Rattle.enf_data.specs.declared.terms.VarId.{VarId}
use Rattle.std.specs.List.{AllZip, AllByRecursion, flat_map}
use Rattle.std.specs.Prelude.{◌≡◌, List, ◌≢◌, ◌⊎◌, Some, length, ℕ, slice_get, [], ◌≤◌}
use Rattle.std.specs.Prelude.{IsTrue}
use Rattle.enf_formula.specs.machine.Laws.{AreEquivalent}
use Rattle.enf_formula.specs.meaning.Satisfaction.{Formula, Classically}
use Rattle.signature.specs.declared.entries.NameEntry.{NameEntry}
use Rattle.formula_reader.specs.machine.WellFormedPolicies.{arity_of, IsWellFormedPolicy}
use Rattle.formula_reader.specs.meaning.Resolution.{Rule}
use Rattle.plan_terms.specs.machine.GuardProperties.{CanBeEvaluated}
use Rattle.plan_terms.specs.machine.IntervalEnds.{AllEndLater}
use Rattle.plan_terms.specs.machine.NameBounds.{LooksBelow}
use Rattle.plan_terms.specs.meaning.Plans.{NothingClashes, IsCaused, IsSuppressed, nodes, formula_for, Plan, CausePlan}
use Rattle.plan_terms.specs.meaning.Plans.{SuppressPlan}
use Rattle.plan_terms.specs.machine.WellFormed.{IsNumberedPlan, GuardsAreListed, AreWellFormed}
use Rattle.rank_check.specs.machine.Limits.{ArePlansWithinLimits}
use Rattle.enforce_types.specs.declared.refusals.Refusal.{Refusal}
use Rattle.enforce_types.specs.declared.refusals.TypeRefusal.{TypeRefusal}
use Rattle.enforce_types.specs.declared.refusals.TypeRefusal.TheVariants.{NoMemory}
use Rattle.enforce_types.specs.machine.TypedPolicies.{formulas_of}
use Rattle.enforce_types.specs.meaning.Elab.{IsAccepted, ArePlanned, is_causable, is_suppressible, guard_numbers}
use Rattle.enforce_types.specs.meaning.PolicyRefusals.{RefusesPolicy, IsFirstRefusal}

-- a policy that is accepted is refused in no other way than by running out of memory
abbrev pub AcceptedIsNotRefused : Type 0
AcceptedIsNotRefused = (entries : List NameEntry) (policy : List Formula) (refusal : TypeRefusal)
    → IsAccepted entries policy → RefusesPolicy entries policy refusal → refusal ≡ NoMemory

-- there is a refusal of the policy
abbrev pub HasRefusal : List NameEntry → List Formula → Type 0
HasRefusal entries policy =
    (refusal : TypeRefusal) × (refusal ≢ NoMemory) × RefusesPolicy entries policy refusal

-- each policy is accepted or refused
abbrev pub AcceptedOrRefused : Type 0
AcceptedOrRefused = (entries : List NameEntry) (policy : List Formula)
    → Classically (IsAccepted entries policy ⊎ HasRefusal entries policy)

-- a policy is refused with one answer at most, other than by running out of memory
abbrev pub RefusedOnce : Type 0
RefusedOnce = (entries : List NameEntry) (policy : List Formula) (refusal other : TypeRefusal)
    → RefusesPolicy entries policy refusal → RefusesPolicy entries policy other
    → refusal ≢ NoMemory → other ≢ NoMemory → refusal ≡ other

-- a leaf has as many terms as its name has columns
abbrev pub FillsColumns : List NameEntry → Plan → Type 0
FillsColumns entries (CausePlan node place name terms) = arity_of entries name ≡ Some (length terms)
FillsColumns entries (SuppressPlan node place name terms) = arity_of entries name ≡ Some (length terms)
FillsColumns entries plan = Unit {0}

-- the plan's formula holds at every position of every trace under every valuation exactly where the formula does
abbrev pub PlanMeans : Formula → Plan → Type 0
PlanMeans f plan = AreEquivalent (formula_for plan) f

abbrev pub PolicyKeepsMeaning : Type 0
PolicyKeepsMeaning = (entries : List NameEntry) (policy : List Formula) (plans : List Plan)
    (guards : List (Formula × List VarId)) → ArePlanned entries policy plans guards → AllZip PlanMeans policy plans

abbrev pub PolicyIsNumbered : Type 0
PolicyIsNumbered = (entries : List NameEntry) (policy : List Formula) (plans : List Plan)
    (guards : List (Formula × List VarId)) → ArePlanned entries policy plans guards
    → AllByRecursion IsNumberedPlan plans
    × ((place number : ℕ) → slice_get (flat_map guard_numbers plans) place ≡ Some number → number ≡ place)

abbrev pub PolicyGuardsAreSafe : Type 0
PolicyGuardsAreSafe = (entries : List NameEntry) (policy : List Formula) (plans : List Plan)
    (guards : List (Formula × List VarId)) → ArePlanned entries policy plans guards
    → AllByRecursion CanBeEvaluated guards

-- the guards and tests of the plans stand at their numbers
abbrev pub GuardsAreAtNumbers : Type 0
GuardsAreAtNumbers = (entries : List NameEntry) (policy : List Formula) (plans : List Plan)
    (guards : List (Formula × List VarId)) → ArePlanned entries policy plans guards
    → AllByRecursion (λ plan. GuardsAreListed guards plan []) plans

-- a policy has plans or a first refusal
abbrev pub PolicyHasAnswer : Type 0
PolicyHasAnswer = (entries : List NameEntry) (policy : List Formula)
    → ((plans : List Plan) × (guards : List (Formula × List VarId)) × ArePlanned entries policy plans guards)
    ⊎ ((refusal : Refusal) × IsFirstRefusal entries policy refusal)

-- a policy does not have both plans and a first refusal
abbrev pub NotPlannedAndRefused : Type 0
NotPlannedAndRefused = (entries : List NameEntry) (policy : List Formula) (plans : List Plan)
    (guards : List (Formula × List VarId)) (refusal : Refusal)
    → ArePlanned entries policy plans guards → IsFirstRefusal entries policy refusal → ⊥

-- a policy has no other plans than these
abbrev pub OnePlans : Type 0
OnePlans = (entries : List NameEntry) (policy : List Formula) (plans others : List Plan)
    (guards more : List (Formula × List VarId))
    → ArePlanned entries policy plans guards → ArePlanned entries policy others more
    → (plans ≡ others) × (guards ≡ more)

abbrev pub OneRefusal : Type 0
OneRefusal = (entries : List NameEntry) (policy : List Formula) (refusal other : Refusal)
    → IsFirstRefusal entries policy refusal → IsFirstRefusal entries policy other → refusal ≡ other

-- the plans of a policy that was read keep to the limits, and their names are those of the signature
abbrev pub PlansAreWithinLimits : Type 0
PlansAreWithinLimits = (entries : List NameEntry) (rules : List Rule) (plans : List Plan)
    (guards : List (Formula × List VarId)) → length entries ≤ MOST_NAMES → IsWellFormedPolicy entries rules
    → ArePlanned entries (formulas_of rules) plans guards → ArePlansWithinLimits (length entries) plans

-- the plans of a policy are well-formed with their guards, where no name is both caused and suppressed
abbrev pub PlansAreWellFormed : Type 0
PlansAreWellFormed = (entries : List NameEntry) (rules : List Rule) (plans : List Plan)
    (guards : List (Formula × List VarId)) → IsWellFormedPolicy entries rules
    → ArePlanned entries (formulas_of rules) plans guards → NothingClashes plans → AreWellFormed plans guards

-- no interval of the plans of a policy ends at once
abbrev pub PlansEndLater : Type 0
PlansEndLater = (entries : List NameEntry) (rules : List Rule) (plans : List Plan)
    (guards : List (Formula × List VarId)) → IsWellFormedPolicy entries rules
    → ArePlanned entries (formulas_of rules) plans guards → AllEndLater plans

-- the names that plans cause or suppress can be so changed under the signature, and have as many columns as the
-- leaves have terms; the names that guards look for are names of the signature
pub record KeepsToSignature (entries : List NameEntry) (plans : List Plan)
    (guards : List (Formula × List VarId)) : Type 0 where
  pub caused : (name : NameId) → IsCaused plans name → IsTrue (is_causable entries name)
  pub suppressed : (name : NameId) → IsSuppressed plans name → IsTrue (is_suppressible entries name)
  pub filled : AllByRecursion (FillsColumns entries) (flat_map nodes plans)
  pub looked_for : AllByRecursion (LooksBelow (length entries)) guards

abbrev pub PlansKeepToSignature : Type 0
PlansKeepToSignature = (entries : List NameEntry) (rules : List Rule) (plans : List Plan)
    (guards : List (Formula × List VarId)) → IsWellFormedPolicy entries rules
    → ArePlanned entries (formulas_of rules) plans guards → KeepsToSignature entries plans guards
