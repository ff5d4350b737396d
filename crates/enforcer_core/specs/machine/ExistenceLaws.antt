-- That just one list of steps is emitted for the records of each log.
use Rattle.enf_data.specs.declared.steps.Step.{Step}
use Rattle.std.specs.Prelude.{List, ◌≡◌}
use Rattle.enf_formula.specs.meaning.Satisfaction.{Formula}
use Rattle.signature.specs.declared.entries.NameEntry.{NameEntry}
use Rattle.trace_meaning.specs.meaning.Traces.{Record}
use Rattle.choice_step.specs.machine.Laws.{AreDistinct}
use Rattle.choice_step.specs.meaning.ActedSteps.{ActedStep}
use Rattle.choice_step.specs.meaning.Follows.{Follows, FollowsDrain}
use Rattle.enforce_types.specs.machine.TypedPolicies.{WorkTogether}
use Rattle.enforce_types.specs.meaning.Elab.{ArePlanned}
use Rattle.enforce_types.specs.meaning.PolicyRefusals.{Typed}
use Rattle.enforcer_core.specs.meaning.FollowsPolicy.{FollowsPolicy, FollowsToEnd}

-- after each trace the plans of an accepted policy decide something for the records of each log, with no event twice
-- in a step
abbrev pub SomethingFollows : Type 0
SomethingFollows = (typed : Typed) (trace : List Step) (records : List Record) → WorkTogether typed
    → AreDistinct records → (out : List ActedStep) × Follows typed.plans trace records out

-- after each trace the steps that serve all that is pending come to an end
abbrev pub SomethingDrains : Type 0
SomethingDrains = (typed : Typed) (trace : List Step) → WorkTogether typed
    → (out : List ActedStep) × FollowsDrain typed.plans trace out

-- one list of steps has the property, and no other
abbrev pub IsJustOne : (List ActedStep → Type 0) → Type 0
IsJustOne P = (out : List ActedStep) × P out × ((others : List ActedStep) → P others → others ≡ out)

-- just one list of steps is emitted for the records of each log by the plans of an accepted policy
abbrev pub JustOneFollows : Type 0
JustOneFollows = (typed : Typed) (trace : List Step) (records : List Record) → WorkTogether typed
    → AreDistinct records → IsJustOne (Follows typed.plans trace records)

-- just one list of steps is emitted for the records of each log by an accepted policy, and so up to its end, where
-- all that is pending is served
abbrev pub JustOneFollowsPolicy : Type 0
JustOneFollowsPolicy = (entries : List NameEntry) (policy : List Formula) (typed : Typed) (trace : List Step)
    (records : List Record) → ArePlanned entries policy typed.plans typed.guards → WorkTogether typed
    → AreDistinct records → IsJustOne (FollowsPolicy entries policy trace records)

abbrev pub JustOneFollowsToEnd : Type 0
JustOneFollowsToEnd = (entries : List NameEntry) (policy : List Formula) (typed : Typed) (trace : List Step)
    (records : List Record) → ArePlanned entries policy typed.plans typed.guards → WorkTogether typed
    → AreDistinct records → IsJustOne (FollowsToEnd entries policy trace records)
