-- The laws of what an enforcer has done since it stood for a trace.
use Rattle.enf_data.specs.declared.events.NameId.{NameId}
use Rattle.enf_data.specs.declared.steps.Step.{Step}
use Rattle.enf_data.specs.declared.terms.VarId.{VarId}
use Rattle.std.specs.Prelude.{List, ◌++◌, [], ◌∷◌, Bool, ◌≡◌, IsTrue, length}
use Rattle.enf_formula.specs.meaning.Satisfaction.{Formula}
use Rattle.signature.specs.declared.entries.NameEntry.{NameEntry}
use Rattle.trace_meaning.specs.machine.Enforced.{KeepsUp, Enforced}
use Rattle.trace_meaning.specs.meaning.Traces.{Good, Satisfies, Record, recorded, time_of}
use Rattle.plan_terms.specs.machine.StoredPlans.{formulas_for}
use Rattle.choice_step.specs.machine.Laws.{AreDistinct}
use Rattle.choice_step.specs.meaning.ActedSteps.{ActedStep, out_steps, untouched}
use Rattle.rank_check.specs.meaning.AcceptedPlans.{is_transparent}
use Rattle.enforce_types.specs.machine.TypedPolicies.{WorkTogether, typed_of}
use Rattle.enforce_types.specs.meaning.Elab.{ArePlanned}
use Rattle.enforcer_core.specs.declared.steps.StepOut.{StepOut}
use Rattle.enforcer_core.specs.machine.Answers.{EnforcerGoesOn, IsCallInTime}
use Rattle.enforcer_core.specs.machine.Course.{Course}
use Rattle.enforcer_core.specs.machine.Enforcers.{Enforcing, enforcer_plans, start_of}
use Rattle.enforcer_core.specs.machine.LawfulChanges.{ChangesLawfully, Permits}
use Rattle.enforcer_core.specs.machine.MadeSteps.{acted_steps}
use Rattle.enforcer_core.specs.machine.Stands.{FollowsDrainFrom, FollowsFrom, KeepsStanding, SatisfiesBehind, Stands}
use Rattle.enforcer_core.specs.meaning.FollowsPolicy.{FollowsPolicy, FollowsToEnd}
use Rattle.enforcer_core.specs.meaning.JustifiedByPolicy.{IsJustifiedByPolicy}

-- what was emitted so far for the records of a log is justified
abbrev pub CourseIsJustified : Type 0
CourseIsJustified = (entries : List NameEntry) (policy : List Formula) (guards : List (Formula × List VarId))
    (start : Enforcing) (trace : List Step) (records : List Record) (out : List ActedStep) (now : Enforcing)
    → ArePlanned entries policy (enforcer_plans start) guards
    → WorkTogether (typed_of start.policy) → AreDistinct records
    → Course start trace records out now → IsJustifiedByPolicy entries policy trace records out

-- what was emitted for the records of a log is justified, together with what a drain lets out, as its contract says
-- its Ok
abbrev pub CourseIsJustifiedToEnd : Type 0
CourseIsJustifiedToEnd = (entries : List NameEntry) (policy : List Formula) (guards : List (Formula × List VarId))
    (start : Enforcing) (trace : List Step) (records : List Record) (out : List ActedStep) (now : Enforcing)
    (made : StepOut) → ArePlanned entries policy (enforcer_plans start) guards
    → WorkTogether (typed_of start.policy)
    → AreDistinct records → Course start trace records out now → FollowsDrainFrom now (acted_steps made.steps)
    → IsJustifiedByPolicy entries policy trace records (out ++ acted_steps made.steps)

-- an enforcer that has taken no record since it stood for a trace has emitted nothing since
abbrev pub CourseBegins : Type 0
CourseBegins = (start : Enforcing) (trace : List Step) → Stands start trace → Course start trace [] [] start

-- an enforcer that takes one record more, and goes on as the contract of a call says of its Ok, has taken all of them
abbrev pub CourseGoesOn : Type 0
CourseGoesOn = (start : Enforcing) (trace : List Step) (records : List Record) (out : List ActedStep)
    (now : Enforcing) (next : Record) (made : StepOut) (after : Enforcing)
    → Course start trace records out now
    → IsCallInTime now (time_of next) → EnforcerGoesOn now (time_of next) (length made.steps) after
    → KeepsStanding now after (acted_steps made.steps)
    → ChangesLawfully (enforcer_plans now) now.clock (time_of next) (next ∷ []) (acted_steps made.steps)
    → FollowsFrom now (next ∷ []) (acted_steps made.steps)
    → Course start trace (records ++ next ∷ []) (out ++ acted_steps made.steps) after

-- what was emitted so far keeps up with the records, whatever was decided
abbrev pub CourseKeepsUp : Type 0
CourseKeepsUp = (causable suppressible : NameId → Bool) (start : Enforcing) (trace : List Step)
    (records : List Record) (out : List ActedStep) (now : Enforcing)
    → Permits causable suppressible (enforcer_plans start) → WorkTogether (typed_of start.policy)
    → Course start trace records out now
    → KeepsUp causable suppressible (formulas_for (enforcer_plans start)) (start_of start trace) records
    (out_steps out)

-- what was emitted for the records is all that is owed to them, together with what a drain lets out, as its contract
-- says its Ok
abbrev pub CourseEnforces : Type 0
CourseEnforces = (causable suppressible : NameId → Bool) (start : Enforcing) (trace : List Step)
    (records : List Record) (out : List ActedStep) (now : Enforcing) (made : StepOut) (after : Enforcing)
    → Permits causable suppressible (enforcer_plans start)
    → Course start trace records out now
    → KeepsStanding now after (acted_steps made.steps) → SatisfiesBehind now (acted_steps made.steps)
    → ChangesLawfully (enforcer_plans now) now.clock after.clock [] (acted_steps made.steps)
    → Enforced causable suppressible (formulas_for (enforcer_plans start)) (start_of start trace) records
    (out_steps (out ++ acted_steps made.steps))

-- what was emitted for the records is decided by the plans of the policy, and so is what is emitted up to their end
abbrev pub CourseFollows : Type 0
CourseFollows = (entries : List NameEntry) (policy : List Formula) (guards : List (Formula × List VarId))
    (start : Enforcing) (trace : List Step) (records : List Record) (out : List ActedStep) (now : Enforcing)
    → ArePlanned entries policy (enforcer_plans start) guards → Course start trace records out now
    → FollowsPolicy entries policy trace records out

abbrev pub CourseFollowsToEnd : Type 0
CourseFollowsToEnd = (entries : List NameEntry) (policy : List Formula) (guards : List (Formula × List VarId))
    (start : Enforcing) (trace : List Step) (records : List Record) (out : List ActedStep) (now : Enforcing)
    (made : StepOut)
    → ArePlanned entries policy (enforcer_plans start) guards → Course start trace records out now
    → FollowsDrainFrom now (acted_steps made.steps)
    → FollowsToEnd entries policy trace records (out ++ acted_steps made.steps)

-- under transparent plans the steps of a log are emitted as they came, as long as they can be continued well under
-- the policy
abbrev pub CourseIsTransparent : Type 0
CourseIsTransparent = (entries : List NameEntry) (policy : List Formula) (guards : List (Formula × List VarId))
    (start : Enforcing) (trace : List Step) (records : List Record) (out : List ActedStep) (now : Enforcing)
    → ArePlanned entries policy (enforcer_plans start) guards → WorkTogether (typed_of start.policy)
    → IsTrue (is_transparent (enforcer_plans start)) → AreDistinct records → Course start trace records out now
    → Good policy (trace ++ recorded records) now.clock → out ≡ untouched (recorded records)

-- under transparent plans the steps of a log are emitted as they came, together with a drain, as its contract says
-- its Ok, where they satisfy the policy
abbrev pub CourseIsTransparentToEnd : Type 0
CourseIsTransparentToEnd = (entries : List NameEntry) (policy : List Formula) (guards : List (Formula × List VarId))
    (start : Enforcing) (trace : List Step) (records : List Record) (out : List ActedStep) (now : Enforcing)
    (made : StepOut) → ArePlanned entries policy (enforcer_plans start) guards
    → WorkTogether (typed_of start.policy)
    → IsTrue (is_transparent (enforcer_plans start)) → AreDistinct records → Course start trace records out now
    → FollowsDrainFrom now (acted_steps made.steps) → Satisfies (trace ++ recorded records) policy
    → out ++ acted_steps made.steps ≡ untouched (recorded records)
