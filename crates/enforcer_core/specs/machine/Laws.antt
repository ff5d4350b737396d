-- The laws of what the plans of an accepted policy decide.
use Rattle.enf_data.specs.declared.steps.Step.{Step}
use Rattle.enf_data.specs.declared.terms.VarId.{VarId}
use Rattle.enf_data.specs.meaning.Data.{IsTrace}
use Rattle.std.specs.Prelude.{ℕ, List, ◌++◌, Ok, [], ◌≡◌, IsTrue}
use Rattle.enf_formula.specs.meaning.Satisfaction.{Formula}
use Rattle.signature.specs.declared.entries.NameEntry.{NameEntry}
use Rattle.trace_meaning.specs.meaning.Traces.{Good, Satisfies, Record, recorded, NeverFall, clock_after}
use Rattle.formula_reader.specs.meaning.PolicyAnswers.{IsPolicyAnswer}
use Rattle.formula_reader.specs.meaning.Resolution.{Rule}
use Rattle.plan_terms.specs.machine.StoredPlans.{formulas_for}
use Rattle.plan_terms.specs.meaning.Plans.{Plan}
use Rattle.plan_terms.specs.machine.WellFormed.{AreWellFormed}
use Rattle.obligations.specs.meaning.Pending.{IsReady}
use Rattle.choice_step.specs.machine.Laws.{AreDistinct}
use Rattle.choice_step.specs.meaning.ActedSteps.{ActedStep, untouched, AllAreJustified}
use Rattle.choice_step.specs.meaning.Follows.{steps_of, Follows, FollowsDrain}
use Rattle.rank_check.specs.meaning.AcceptedPlans.{is_transparent}
use Rattle.enforce_types.specs.machine.TypedPolicies.{formulas_of, WorkTogether, typed_of}
use Rattle.enforce_types.specs.machine.VariableSorts.{TraceFits}
use Rattle.enforce_types.specs.meaning.Elab.{ArePlanned}
use Rattle.enforce_types.specs.meaning.PolicyRefusals.{Typed}
use Rattle.enforcer_core.specs.machine.Enforcers.{Enforcing, enforcer_plans}
use Rattle.enforcer_core.specs.machine.Stands.{Stands}

-- after a trace that fits, the steps that plans of a policy that was read let out for records that fit do so too
abbrev pub FollowsFitsSignature : Type 0
FollowsFitsSignature = (entries : List NameEntry) (rules : List Rule) (bytes : List ℕ) (plans : List Plan)
    (guards : List (Formula × List VarId)) (trace : List Step) (records : List Record) (out : List ActedStep)
    → IsPolicyAnswer entries bytes (Ok rules)
    → ArePlanned entries (formulas_of rules) plans guards → AreWellFormed plans guards
    → TraceFits entries trace → TraceFits entries (recorded records)
    → Follows plans trace records out → TraceFits entries (trace ++ steps_of out)

-- ---- laws

-- what the plans of an accepted policy decide for records is justified, after each trace that is ready for a clock, by
-- times that do not fall from it
abbrev pub FollowsIsJustified : Type 0
FollowsIsJustified = (typed : Typed) (trace : List Step) (clock : ℕ) (records : List Record) (out : List ActedStep)
    → WorkTogether typed → IsTrace trace → IsReady typed.plans trace clock → NeverFall clock records
    → AreDistinct records → Follows typed.plans trace records out
    → AllAreJustified typed.plans trace (recorded records) out

-- what serves all that is pending is justified, after each trace that is ready for a clock
abbrev pub DrainIsJustified : Type 0
DrainIsJustified = (typed : Typed) (trace : List Step) (clock : ℕ) (out : List ActedStep) → WorkTogether typed
    → IsTrace trace → IsReady typed.plans trace clock → FollowsDrain typed.plans trace out
    → AllAreJustified typed.plans trace [] out

-- what an enforcer of an accepted policy stands for can be continued well from its clock on
abbrev pub StandsForGood : Type 0
StandsForGood = (enforcer : Enforcing) (trace : List Step) → WorkTogether (typed_of enforcer.policy)
    → Stands enforcer trace → Good (formulas_for (enforcer_plans enforcer)) trace enforcer.clock

-- a trace that satisfies what the plans of a policy stand for satisfies the policy, and what can be continued so can be
-- continued so that it satisfies the policy
abbrev pub PlannedAreSatisfied : Type 0
PlannedAreSatisfied = (entries : List NameEntry) (policy : List Formula) (plans : List Plan)
    (guards : List (Formula × List VarId)) (trace : List Step) → ArePlanned entries policy plans guards
    → Satisfies trace (formulas_for plans) → Satisfies trace policy

-- ---- laws

-- after each trace that is ready for a clock, what transparent plans of an accepted policy decide for records, whose
-- times do not fall from it, is the steps of the records as they came, where these can be continued well from the last
-- time on
abbrev pub FollowsAlone : Type 0
FollowsAlone = (typed : Typed) (trace : List Step) (clock : ℕ) (records : List Record) (out : List ActedStep)
    → WorkTogether typed → IsTrue (is_transparent typed.plans) → IsTrace trace → IsReady typed.plans trace clock
    → NeverFall clock records → AreDistinct records → Follows typed.plans trace records out
    → Good (formulas_for typed.plans) (trace ++ recorded records) (clock_after clock records)
    → out ≡ untouched (recorded records)

-- under transparent plans nothing is owed after a trace that satisfies what they stand for
abbrev pub NothingDrains : Type 0
NothingDrains = (typed : Typed) (trace : List Step) (clock : ℕ) (out : List ActedStep) → WorkTogether typed
    → IsTrue (is_transparent typed.plans) → IsTrace trace → IsReady typed.plans trace clock
    → FollowsDrain typed.plans trace out → Satisfies trace (formulas_for typed.plans) → out ≡ []
