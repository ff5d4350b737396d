-- That what is missing, begun and pending is a list.
use Rattle.enf_data.specs.declared.steps.Step.{Step}
use Rattle.enf_data.specs.declared.terms.VarId.{VarId}
use Rattle.enf_data.specs.meaning.Valuations.{Valuation}
use Rattle.std.specs.List.{AllByRecursion}
use Rattle.std.specs.Prelude.{List, ℕ, Bool}
use Rattle.enf_formula.specs.meaning.Satisfaction.{Formula}
use Rattle.plan_terms.specs.meaning.Plans.{Plan}
use Rattle.obligations.specs.declared.instances.Instance.{Instance}
use Rattle.obligations.specs.declared.literals.Literal.{Literal}
use Rattle.obligations.specs.machine.AskablePlans.{CanAskPlan, CanAskOf, CanAskRoots}
use Rattle.obligations.specs.machine.PlanClasses.{PlansStand}
use Rattle.obligations.specs.meaning.Obligations.{Begun, Missing}
use Rattle.obligations.specs.meaning.Pending.{MissingOf, After, PendingAfter, Pend}

-- there is a list of what a plan misses that can be asked
abbrev pub MissingExists : Type 0
MissingExists = (guards : List (Formula × List VarId)) (trace : List Step) (plan : Plan) (v : Valuation)
    → CanAskPlan guards plan v → (literals : List Literal) × Missing trace plan v literals

-- there is a list of what a plan begins that can be asked
abbrev pub BegunExists : Type 0
BegunExists = (guards : List (Formula × List VarId)) (trace : List Step) (rule : ℕ) (plan : Plan) (v : Valuation)
    → CanAskPlan guards plan v → (begun : List Instance) × Begun trace rule plan v begun

-- there is a list of what an instance misses that can be asked
abbrev pub MissingOfExists : Type 0
MissingOfExists = (guards : List (Formula × List VarId)) (plans : List Plan) (trace : List Step) (i : Instance)
    (forced : Bool) → CanAskOf guards plans i → (literals : List Literal) × MissingOf plans trace i forced literals

-- there is a list of what an instance becomes that can be asked
abbrev pub AfterExists : Type 0
AfterExists = (guards : List (Formula × List VarId)) (plans : List Plan) (trace : List Step) (i : Instance)
    → CanAskOf guards plans i → (after : List Instance) × After plans trace i after

-- there is a list of what is pending after a step
abbrev pub PendingAfterExists : Type 0
PendingAfterExists = (guards : List (Formula × List VarId)) (plans : List Plan) (trace : List Step)
    (before : List Instance)
    → CanAskRoots guards plans → AllByRecursion (CanAskOf guards plans) before
    → (after : List Instance) × PendingAfter plans trace before after

-- there is a list of what is pending after a trace
abbrev pub PendExists : Type 0
PendExists = (guards : List (Formula × List VarId)) (plans : List Plan) (trace : List Step) → PlansStand plans
    → CanAskRoots guards plans → (pending : List Instance) × Pend plans trace pending
